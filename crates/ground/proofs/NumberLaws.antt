-- Counting the live nodes, and laying a word for each: a turn more of a loop over the nodes.
use Prim.Native.Nat.{ℕ, ◌+◌, ◌≤◌, ◌<◌}
use native.Mathlib.Nat.{add-zero}
use native.Mathlib.Numerals.{add-one}
use native.Mathlib.Omega.{arith}
use mathlib.Core.Bool.{Bool, true, false, cond}
use mathlib.Core.List.{List, [], ◌∷◌, ◌++◌, map, map-append}
use mathlib.Core.Path.{◌≡◌, refl, sym, ap, ap₂, subst, ◌∙◌}
use lib.ListN.{length, take, set, get_or, length-set}
use lib.Seq.{take-set-le, take-suc-set}
use mir.Val.{bool_byte}
use Rattle.records.specs.Finite.{count}
use Rattle.records.specs.Layout.{max_objects}
use Rattle.records.proofs.General.FiniteLaws.{count_turn, count_le}
use Rattle.records.specs.Helpers.Loops.{upto}
use Rattle.chase.specs.Primary.{Prime, rep_of, set_of}
use Rattle.chase.specs.Ground.{live, object_of, listing}
use Rattle.primary.specs.Formed.{prime}
use Rattle.chase.specs.Bounds.{max_nodes}
use Rattle.primary.specs.Words.{part, edge_of, EdgeIn}
use Rattle.ground.specs.Objects.{ground_word}
use Rattle.ground.specs.Laying.{Grounds}
use Rattle.ground.specs.Numbers.{Inside, live_in, object_in}

-- the word at the end stays if its number passes
laid_turn : (test : ℕ → Bool) (f word : ℕ → ℕ) (l : List ℕ) (i k v : ℕ) (b : Bool) → k < length l → b ≡ test i → v ≡ word (f i)
    → take k l ≡ map word (listing test f i)
    → take (k + bool_byte b) (set l k v) ≡ map word (listing test f (i + 1))
unfolding listing upto
laid_turn test f word l i k v b h q w e =
    go b ∙ ap (λ (c : Bool). map word (cond c (listing test f i ++ (f i ∷ [])) (listing test f i))) q
    ∙ sym (ap (λ (j : ℕ). map word (listing test f j)) (add-one i))
  where
    go : (c : Bool) → take (k + bool_byte c) (set l k v) ≡ map word (cond c (listing test f i ++ (f i ∷ [])) (listing test f i))
    go true =
        ap (λ (j : ℕ). take j (set l k v)) (add-one k) ∙ take-suc-set l k v h ∙ ap₂ (λ (m : List ℕ) (u : ℕ). m ++ (u ∷ [])) e w
        ∙ sym (map-append word (listing test f i) (f i ∷ []))
    go false = ap (λ (j : ℕ). take j (set l k v)) (add-zero k) ∙ take-set-le k l k v (omega arith) ∙ e

module _ (x : Prime) where
  pub grounds_none : (l : List ℕ) → length l ≡ max_objects → Grounds x 0 0 l
  unfolding count listing upto
  grounds_none l h = record { number = refl; words = refl; room = h }

  -- there is room for a word more
  pub grounds_room : (i g : ℕ) (l : List ℕ) → i < max_nodes → Grounds x i g l → g < max_nodes
  grounds_room i g l h a = omega (arith, count_le (live x) i, a.number)

  pub grounds_more : (i g v : ℕ) (l : List ℕ) (b : Bool) → i < max_nodes → Grounds x i g l → v ≡ ground_word (set_of x i) → b ≡ live x i
      → Grounds x (i + 1) (g + bool_byte b) (set l g v)
  grounds_more i g v l b h a w q =
      record {
        number = count_turn (live x) i g b a.number q;
        words = laid_turn (live x) (set_of x) ground_word l i g v b (omega (arith, grounds_room i g l h a, a.room)) q w a.words;
        room = length-set l g v ∙ a.room;
      }

  pub grounds_all : (i n g : ℕ) (l : List ℕ) → i ≡ n → Grounds x i g l → Grounds x n g l
  grounds_all i n g l e a = subst (λ (k : ℕ). Grounds x k g l) e a

-- the class sets have no part in it
pub live_any : (r s : List ℕ) (n : ℕ) → live_in r n ≡ live (prime r s) n
unfolding live rep_of
live_any r s n = refl

-- an object's number has room in a part of an edge
pub object_part_lem : (r : List ℕ) (n k : ℕ) → Inside r × (n < length r) → length r ≤ max_nodes → k ≡ object_in r n → k < part
unfolding object_of rep_of
object_part_lem r n k h few e = omega (arith, h.0 n h.1, count_le (live_in r) (get_or r n 0))

pub ends_part : (r : List ℕ) → Inside r → length r ≤ max_nodes → (w : ℕ) → EdgeIn (length r) w
    → (object_in r (edge_of w).origin < part) × (object_in r (edge_of w).target < part)
ends_part r inside few w e =
    (object_part_lem r _ _ (inside, e.origin) few refl, object_part_lem r _ _ (inside, e.target) few refl)
