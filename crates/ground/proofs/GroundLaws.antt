-- For callers: the laid objects and the renumbered edges are the ground of a task, in all that the made part and the
-- candidate read of it.
use Prim.Native.Nat.{ℕ, ◌^◌, ◌≤◌, ◌<◌}
use native.Mathlib.Omega.{arith}
use mathlib.Core.List.{List, [], ◌∷◌, map}
use mathlib.Core.Path.{◌≡◌, refl, sym, ap, ap₂, ◌∙◌}
use lib.ListN.{length, get_or, take}
use lib.Pow.{pow_mono}
use lib.Seq.{get_or-take, length-take-le}
use Rattle.records.specs.Finite.{count}
use Rattle.records.specs.Layout.{max_classes}
use Rattle.chase.specs.Facts.{Edge}
use Rattle.chase.specs.Task.{Task, WellFormed, nodes, start_node, constant_node, mark_node, asked}
use Rattle.chase.specs.Primary.{Prime, rep_of, set_of, primary}
use Rattle.chase.specs.Ground.{set_at, live, object_of, listing, renumber, ground_of, ground}
use Rattle.chase.proofs.Answers.{ground_is}
use Rattle.records.proofs.General.FiniteLaws.{count_le}
use Rattle.records.proofs.General.ListLaws.{get_d_map}
use Rattle.primary.specs.Formed.{prime}
use Rattle.chase.specs.Bounds.{max_nodes}
use Rattle.primary.specs.Words.{edge_of}
use Rattle.ground.specs.Objects.{classes_in, ground_word, ground_in, Laid}
use Rattle.ground.specs.Numbers.{object_in, renumber_in}
use Rattle.ground.specs.Laying.{Grounds}
use Rattle.ground.specs.Agrees.{Agrees}

-- the class sets of words
sets_back : (l : List ℕ) → map classes_in (map ground_word l) ≡ l
sets_back [] = refl
sets_back (c ∷ l) = let e : classes_in (ground_word c) ≡ c = omega arith in ap₂ (λ (x : ℕ) (m : List ℕ). x ∷ m) e (sets_back l)

-- the numbers of objects do not depend on the class sets
renumber_any : (r s : List ℕ) (l : List Edge) → map (renumber_in r) l ≡ map (renumber (prime r s)) l
unfolding object_of live rep_of
renumber_any r s l = refl

-- the representatives and sets are those of the task's primary part
module _ (t : Task) (r s : List ℕ) (is : prime r s ≡ primary t) where
  pub ground_agrees : (g : ℕ) (objects es : List ℕ) → length r ≡ nodes t → Grounds (prime r s) (length r) g objects
      → map edge_of es ≡ map (renumber_in r) (asked t).edges
      → Agrees (ground_in g objects es) (ground t)
  unfolding ground ground_of
  ground_agrees g objects es size a k =
      record {
        objects = a.number ∙ ap₂ (λ (n : ℕ) (x : Prime). count n (live x)) size is;
        sets =
            ap (map classes_in) a.words ∙ sets_back (listing (live (prime r s)) (set_of (prime r s)) (length r))
            ∙ ap₂ (λ (n : ℕ) (x : Prime). listing (live x) (set_of x) n) size is;
        edges = k ∙ renumber_any r s (asked t).edges ∙ ap (λ (x : Prime). map (renumber x) (asked t).edges) is;
      }

  -- the objects of the constants
  pub constant_object : (a : ℕ) → object_in r (constant_node t a) ≡ (ground t).constants a
  unfolding ground ground_of object_of live rep_of
  constant_object a = ap (λ (x : Prime). object_of x (constant_node t a)) is

  -- the objects of the marks
  pub mark_object : (k : ℕ) → object_in r (mark_node t k) ≡ (ground t).marks k
  unfolding ground ground_of object_of live rep_of
  mark_object k = ap (λ (x : Prime). object_of x (mark_node t k)) is

  -- the object of the start
  pub start_object : object_in r (start_node t) ≡ (ground t).start
  unfolding ground ground_of object_of live rep_of
  start_object = ap (λ (x : Prime). object_of x (start_node t)) is

pub grounds_laid : (x : Prime) (n g : ℕ) (objects : List ℕ) → n ≤ max_nodes → Grounds x n g objects → Laid g g objects
grounds_laid x n g objects h a =
    record { room = a.room; ground = omega arith; fits = omega (arith, count_le (live x) n, a.number) }

-- what the task's ground gives to one that agrees with it
module _ (t : Task) (formed : WellFormed t) (g : ℕ) (objects fs : List ℕ) (same : Agrees (ground_in g objects fs) (ground t)) where
  pub sets_fit : t.schema.signature.classes ≤ max_classes → g ≤ length objects → (d : ℕ) → d < g → classes_in (get_or objects d 0) < 2 ^ 32
  sets_fit few room d h =
      let e : set_at (ground t) d ≡ classes_in (get_or objects d 0)
      = ap (λ (l : List ℕ). get_or l d 0) (sym same.sets) ∙ get_d_map classes_in (take g objects) d (omega (arith, length-take-le g objects room))
      ∙ ap classes_in (get_or-take g objects d 0 h) in
      omega (arith, (ground_is t formed).small d (omega (arith, same.objects)), pow_mono few)
