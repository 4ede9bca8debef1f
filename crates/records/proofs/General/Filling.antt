-- Lists that a loop goes through from the start: filled entry by entry, and changed entry by entry.
use Prim.Native.Nat.{ℕ, zero, suc, ◌+◌, ◌≤◌, ◌<◌}
use native.Mathlib.Numerals.{add-one}
use native.Mathlib.Omega.{arith}
use mathlib.Core.List.{List, [], ◌∷◌, ◌++◌, map}
use mathlib.Core.Path.{◌≡◌, refl, sym, ap, ◌∙◌}
use lib.ListN.{length, get_or, set, take}
use lib.Seq.{take_all}

-- f 0, f 1, .. (n numbers)
module _ (f : ℕ → ℕ) where
  abbrev pub listed : ℕ → List ℕ
  listed zero = []
  listed (suc n) = listed n ++ (f n ∷ [])

  pub listed_all : (l : List ℕ) (i : ℕ) → length l ≤ i → take i l ≡ listed i → l ≡ listed i
  listed_all l i h e = sym (take_all i l h) ∙ e

-- the first i entries changed
module _ (f : ℕ → ℕ) where
  abbrev pub changed : List ℕ → ℕ → List ℕ
  changed l zero = l
  changed [] (suc i) = []
  changed (x ∷ l) (suc i) = f x ∷ changed l i

  change : (l : List ℕ) (i : ℕ) → i < length l → set (changed l i) i (f (get_or (changed l i) i 0)) ≡ changed l (suc i)
  change [] i h = absurd (omega arith)
  change (x ∷ l) zero h = refl
  change (x ∷ l) (suc i) h = ap (λ (m : List ℕ). f x ∷ m) (change l i (omega arith))

  pub changed_more : (l m : List ℕ) (i : ℕ) → i < length l → m ≡ changed l i → set m i (f (get_or m i 0)) ≡ changed l (i + 1)
  changed_more l m i h e = rw (add-one, e) (change l i h)

  pub changed_all : (l : List ℕ) (i : ℕ) → length l ≤ i → changed l i ≡ map f l
  changed_all [] zero h = refl
  changed_all [] (suc i) h = refl
  changed_all (x ∷ l) zero h = absurd (omega arith)
  changed_all (x ∷ l) (suc i) h = ap (λ (m : List ℕ). f x ∷ m) (changed_all l i (omega arith))
