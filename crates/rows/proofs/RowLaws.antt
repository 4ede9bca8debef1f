-- What the loops over words keep. A row is some words side by side, so a bit of it is a bit of one of these words.
use Prim.Native.Nat.{ℕ, zero, suc, ◌+◌, ◌-◌, ◌*◌, ◌/◌, ◌%◌, ◌≤◌, ◌<◌}
use mathlib.Core.Bool.{Bool, So, ◌&&◌, ◌||◌, and_self}
use mathlib.Core.List.{List, ◌++◌}
use mathlib.Core.Path.{◌≡◌, refl, sym, ap, ap₂, subst, ◌∙◌}
use native.Mathlib.Decide.{ℕ_discrete, dec_lt}
use native.Mathlib.Omega.{arith}
use borrow.Author.Tests.{lt-ltb, le-ltb, ltb-true, eq-eqb, eqb-true}
use lib.Bits.{bit_and}
use lib.Dec.{eqb, ltb}
use lib.ListN.{length, length-set, length-append, length-take, length-drop, get_or, set, take, drop, replicate}
use borrow.Rule.Slice.PartMut.{put_mid}
use denote.Param.Members.{Mut}
use Rattle.std.specs.Fn.{Called}
use Rattle.std.specs.Array.{IsFromFnResult, IsFromFnResultFrom}
use Rattle.std.proofs.lemmas.List.{get_or_append_left, get_or-append_right, get_or-take, get_or-drop}
use lib.Seq.{get_or-set_same, get_or-set_other}
use Rattle.records.proofs.General.BoolLaws.{or_true_cases, or_left, or_right, test_same}
use mathlib.Core.Logic.{⊎_elim}
use Rattle.records.specs.Finite.{bit}
use Rattle.index.specs.BitSet.{word_bits, bit_at, Inserted}
use Rattle.records.proofs.General.BitLaws.{word_and}
use Rattle.index.proofs.BitSetLaws.{zero_bits}
use Rattle.rows.specs.Selection.{set_words}
use Rattle.rows.specs.Rows.{row_bit, Filled, SharedRow, Row, Put, Below}

-- Words filled one after the other.

module _ {f : ℕ → ℕ} {base : ℕ} {ws : List ℕ} where
  pub filled_none : Filled f base 0 ws ws
  filled_none = record { size = refl; done = λ i l. absurd (omega arith); kept = λ k h. refl }

  pub filled_more : {j place x : ℕ} {vs : List ℕ} → Filled f base j ws vs → place ≡ base + j → place < length vs → x ≡ f j
      → Filled f base (j + 1) ws (set vs place x)
  filled_more {j} {place} {x} {vs} z here room is =
      record {
        size = length-set vs place x ∙ z.size;
        done = λ i l. pick i l (ℕ_discrete i j);
        kept = λ k n. get_or-set_other vs place k x 0 (λ q. n j (omega arith) (omega arith)) ∙ z.kept k (λ i l. n i (omega arith));
      }
    where
      pick : (i : ℕ) → i < j + 1 → Dec (i ≡ j) → get_or (set vs place x) (base + i) 0 ≡ f i
      pick i l (yes e) =
          ap (λ (k : ℕ). get_or (set vs place x) k 0) (omega arith) ∙ get_or-set_same vs place x 0 room ∙ is ∙ ap f (sym e)
      pick i l (no n) = get_or-set_other vs place (base + i) x 0 (λ q. n (omega arith)) ∙ z.done i (omega arith)

  pub filled_all : {n m : ℕ} {vs : List ℕ} → Filled f base n ws vs → n ≤ m → m ≤ n → Filled f base m ws vs
  filled_all {n} {m} z l h = let e : n ≡ m = omega arith in rw (← e) z

-- Words copied into a part.
pub filled_part : {ws part : List ℕ} (a n k : ℕ) (l : List ℕ) → k ≡ n → part ≡ l → length l ≡ n → a + n ≤ length ws
    → Filled (λ i. get_or l i 0) a n ws (put_mid a k ws part)
filled_part {ws} {part} a n k l e p q room = rw (p, e) (record { size = long; done = here; kept = λ j h. pick j h (dec_lt j a) (dec_lt j (a + n)) })
  where
    end : List ℕ
    end = drop n (drop a ws)

    front : length (take a ws) ≡ a
    front = omega (arith, length-take a ws)

    long : length (take a ws ++ (l ++ end)) ≡ length ws
    long = simp length-append (omega (arith, front, length-drop a ws, length-drop n (drop a ws)))

    here : (i : ℕ) → i < n → get_or (take a ws ++ (l ++ end)) (a + i) 0 ≡ get_or l i 0
    here i m =
        get_or-append_right (take a ws) (l ++ end) a (a + i) 0 front (omega arith)
        ∙ ap (λ (j : ℕ). get_or (l ++ end) j 0) (omega arith) ∙ get_or_append_left l end 0 i (omega arith)

    pick : (j : ℕ) → ((i : ℕ) → i < n → j ≡ a + i → ⊥) → Dec (j < a) → Dec (j < a + n) → get_or (take a ws ++ (l ++ end)) j 0 ≡ get_or ws j 0
    pick j h (yes m) d = get_or_append_left (take a ws) (l ++ end) 0 j (omega (arith, front)) ∙ get_or-take a ws j 0 m
    pick j h (no m) (yes t) = absurd (h (j - a) (omega arith) (omega arith))
    pick j h (no m) (no t) =
        get_or-append_right (take a ws) (l ++ end) a j 0 front (omega arith) ∙ get_or-append_right l end n (j - a) 0 q (omega arith)
        ∙ get_or-drop n (drop a ws) (j - a - n) 0 ∙ get_or-drop a ws (n + (j - a - n)) 0 ∙ ap (λ (i : ℕ). get_or ws i 0) (omega arith)

-- A list that calls made, number by number.
module _ {F : Type 0} {g : Mut F (ℕ × Unit {0}) ℕ} {f : F} (h : ℕ → ℕ) (vs : List ℕ) (call : (i x : ℕ) (q : F) → Called g f (i, tt) x q → (q ≡ f) × (x ≡ h i)) where
  made_from : (n i : ℕ) (p : F) → p ≡ f → IsFromFnResultFrom g p vs i n → (k : ℕ) → i ≤ k → k < i + n → get_or vs k 0 ≡ h k
  made_from zero i p e w k a b = absurd (omega arith)
  made_from (suc n) i p e (q, x, is, c, rest) k a b =
      let told : (q ≡ f) × (x ≡ h i) = call i x q (subst (λ (r : F). Called g r (i, tt) x q) e c) in
      elim (ℕ_discrete k i) [
        | yes s ↦ ap (λ (j : ℕ). get_or vs j 0) s ∙ is.1 0 ∙ told.1 ∙ ap h (sym s)
        | no s ↦ made_from n (i + 1) q told.0 rest k (omega arith) (omega arith)
      ]

  pub made : {n : ℕ} → IsFromFnResult g f vs n → (k : ℕ) → k < n → get_or vs k 0 ≡ h k
  made {n} z k l = made_from n 0 f refl z.each k (omega arith) (omega arith)

-- Rows.

pub row_word : (ws : List ℕ) (t o : ℕ) → row_bit ws t o ≡ bit (get_or ws (t * set_words + o / word_bits) 0) (o % word_bits)
unfolding bit_at
row_word ws t o =
    ap₂ (λ (i k : ℕ). bit (get_or ws i 0) k) (omega arith) (omega arith)

-- the words of a set
abbrev pub word_of : List ℕ → ℕ → ℕ
word_of set i = get_or set i 0

pub put_of : {ws : List ℕ} {r : ℕ} {set vs : List ℕ} → Filled (word_of set) (r * set_words) set_words ws vs → Put ws r set vs
unfolding bit_at
put_of {ws} {r} {set} {vs} z =
    record {
      size = z.size;
      own = λ o l. row_word vs r o ∙ ap (λ (x : ℕ). bit x (o % word_bits)) (z.done (o / word_bits) (omega arith));
      kept = λ k n o l. row_word vs k o ∙ ap (λ (x : ℕ). bit x (o % word_bits)) (z.kept (k * set_words + o / word_bits) (λ i m q. n (omega arith))) ∙ sym (row_word ws k o);
    }

-- the words that row t of two lists share
abbrev pub shared_word : List ℕ → List ℕ → ℕ → ℕ → ℕ
shared_word ps qs t i = bit_and (get_or ps (t * set_words + i) 0) (get_or qs (t * set_words + i) 0)

pub row_of : {ws : List ℕ} {t : ℕ} {vs : List ℕ} → length vs ≡ set_words → ((i : ℕ) → i < set_words → get_or vs i 0 ≡ get_or ws (t * set_words + i) 0) → Row ws t vs
unfolding bit_at
row_of {ws} {t} {vs} e z =
    record { size = e; bits = λ o l. ap (λ (x : ℕ). bit x (o % word_bits)) (z (o / word_bits) (omega arith)) ∙ sym (row_word ws t o) }

pub shared_row_of : {ps qs : List ℕ} {t : ℕ} {vs : List ℕ} → length vs ≡ set_words → ((i : ℕ) → i < set_words → get_or vs i 0 ≡ shared_word ps qs t i) → SharedRow ps qs t vs
unfolding bit_at
shared_row_of {ps} {qs} {t} {vs} e z =
    record {
      size = e;
      bits = λ o l. ap (λ (x : ℕ). bit x (o % word_bits)) (z (o / word_bits) (omega arith))
          ∙ word_and _ _ (o % word_bits) ∙ ap₂ (λ (a b : Bool). a && b) (sym (row_word ps t o)) (sym (row_word qs t o));
    }

-- what a row shares with itself is the row
module _ (ws : List ℕ) (t : ℕ) where
  pub row_same : {vs : List ℕ} → SharedRow ws ws t vs → Row ws t vs
  row_same h = record { size = h.size; bits = λ o l. h.bits o l ∙ and_self (row_bit ws t o) }

-- A set is a list of one row.
pub row_zero : (ws : List ℕ) (o : ℕ) → row_bit ws 0 o ≡ bit_at ws o
row_zero ws o = ap (λ (b : ℕ). bit_at ws b) (omega arith)

-- The objects below n.

pub below_none : Below 0 (replicate set_words 0)
below_none = record { size = refl; bits = λ d l. zero_bits set_words d ∙ sym (le-ltb d 0 (omega arith)) }

pub below_more : {n : ℕ} {ws vs : List ℕ} → Below n ws → Inserted ws n vs → Below (n + 1) vs
below_more {n} {ws} z h = record { size = h.size ∙ z.size; bits = λ d l. h.bits d ∙ rw (z.bits d l) (next d) }
  where
    next : (d : ℕ) → (ltb d n || eqb d n) ≡ ltb d (n + 1)
    next d =
        test_same _ _ (λ t. lt-ltb d (n + 1) (⊎_elim (λ p. omega (arith, ltb-true d n p)) (λ p. omega (arith, eqb-true d n p)) (or_true_cases (ltb d n) (eqb d n) t)))
        (λ t. pick d (ltb-true d (n + 1) t) (dec_lt d n))
      where
        pick : (d : ℕ) → d < n + 1 → Dec (d < n) → So (ltb d n || eqb d n)
        pick d l (yes m) = or_left (ltb d n) (eqb d n) (lt-ltb d n m)
        pick d l (no m) = or_right (ltb d n) (eqb d n) (eq-eqb d n (omega arith))
