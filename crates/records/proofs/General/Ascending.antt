-- Lists of numbers that ascend strictly: in two parts, by places, and between two bounds.
use Prim.Native.Nat.{ℕ, zero, suc, ◌≤◌, ◌<◌}
use native.Mathlib.Omega.{arith}
use mathlib.Core.List.{List, [], ◌∷◌, ◌++◌}
use mathlib.Core.Path.{◌≡◌}
use lib.ListN.{length, get_or}
use Rattle.records.proofs.General.AllLaws.{All, all_append, all_map, all_at}
use Rattle.records.proofs.General.ListLaws.{at_mem}

abbrev pub Ascends : List ℕ → Type 0
Ascends [] = Unit {0}
Ascends (x ∷ l) = All (λ y. x < y) l × Ascends l

-- .. in two parts, with a bound between
pub ascends_append : (l m : List ℕ) (b : ℕ) → Ascends l → All (λ x. x < b) l → Ascends m → All (λ y. b ≤ y) m → Ascends (l ++ m)
ascends_append [] m b h k i j = i
ascends_append (x ∷ l) m b h k i j =
    (all_append (λ y. x < y) l m h.0 (all_map (λ y z. omega (arith, k.0)) m j), ascends_append l m b h.1 k.1 i j)

-- a later entry is larger
pub ascends_at_lem : (l : List ℕ) → Ascends l → (i j : ℕ) → i < j → j < length l → get_or l i 0 < get_or l j 0
ascends_at_lem [] a i j h k = absurd (omega arith)
ascends_at_lem (x ∷ l) a i zero h k = absurd (omega arith)
ascends_at_lem (x ∷ l) a zero (suc j) h k = all_at (λ y. x < y) (get_or l j 0) l a.0 (at_mem l j (omega arith))
ascends_at_lem (x ∷ l) a (suc i) (suc j) h k = ascends_at_lem l a.1 i j (omega arith) (omega arith)

-- equal entries stand at one place
pub ascends_same : (l : List ℕ) → Ascends l → (i j : ℕ) → i < length l → j < length l → get_or l i 0 ≡ get_or l j 0 → i ≡ j
ascends_same l a i j h k q =
    let before : ¬ (i < j) = λ y. omega (arith, ascends_at_lem l a i j y k) in
    let after : ¬ (j < i) = λ y. omega (arith, ascends_at_lem l a j i y h) in
    omega arith

-- ascending, from low on and below high
pub record Between (low high : ℕ) (l : List ℕ) : Type 0 where
  pub order : low ≤ high
  pub ascends : Ascends l
  pub lower : All (λ x. low ≤ x) l
  pub upper : All (λ x. x < high) l

pub between_none : (low high : ℕ) → low ≤ high → Between low high []
between_none low high h = record { order = h; ascends = tt; lower = tt; upper = tt }

pub between_one : (low high x : ℕ) → low ≤ x → x < high → Between low high (x ∷ [])
between_one low high x h k = record { order = omega arith; ascends = (tt, tt); lower = (h, tt); upper = (k, tt) }

pub between_wider : {low high low' high' : ℕ} (l : List ℕ) → low' ≤ low → high ≤ high' → Between low high l → Between low' high' l
between_wider l h k b =
    record {
      order = omega (arith, b.order);
      ascends = b.ascends;
      lower = all_map (λ x g. omega arith) l b.lower;
      upper = all_map (λ x g. omega arith) l b.upper;
    }

pub between_append : {low mid high : ℕ} (l m : List ℕ) → Between low mid l → Between mid high m → Between low high (l ++ m)
between_append {low} {mid} {high} l m b c =
    record {
      order = omega (arith, b.order, c.order);
      ascends = ascends_append l m mid b.ascends b.upper c.ascends c.lower;
      lower = all_append (λ x. low ≤ x) l m b.lower (all_map (λ x g. omega (arith, b.order)) m c.lower);
      upper = all_append (λ x. x < high) l m (all_map (λ x g. omega (arith, c.order)) l b.upper) c.upper;
    }
