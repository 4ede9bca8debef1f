-- Numbers in a row, and the total of a list.
use Prim.Native.Nat.{ℕ, zero, suc, ◌+◌, ◌*◌, ◌≤◌, ◌<◌}
use native.Mathlib.Omega.{arith}
use native.Mathlib.Nat.{suc-mul, add-zero}
use mathlib.Core.Path.{◌≡◌, refl, sym, ap}
use mathlib.Core.List.{List, [], ◌∷◌, map}
use lib.ListN.{length, get_or, set}
use Rattle.chase.specs.Primary.{total, numbers_from}

pub numbers_length : (k n : ℕ) → length (numbers_from k n) ≡ n
numbers_length k zero = refl
numbers_length k (suc n) = ap suc (numbers_length (suc k) n)

pub numbers_at : (k n i : ℕ) → i < n → get_or (numbers_from k n) i 0 ≡ k + i
numbers_at k zero i h = absurd (omega arith)
numbers_at k (suc n) zero h = sym (add-zero k)
numbers_at k (suc n) (suc i) h = omega (arith, numbers_at (suc k) n i (omega arith))

pub total_set : (l : List ℕ) (i v : ℕ) → i < length l → total (set l i v) + get_or l i 0 ≡ total l + v
total_set [] i v h = absurd (omega arith)
total_set (x ∷ l) zero v h = omega arith
total_set (x ∷ l) (suc i) v h = omega (arith, total_set l i v (omega arith))

-- where each entry is below b
pub total_below : (b : ℕ) (l : List ℕ) → ((i : ℕ) → i < length l → get_or l i 0 < b) → total l ≤ length l * b
total_below b [] h = omega arith
total_below b (x ∷ l) h = omega (arith, h 0 (omega arith), total_below b l (λ i k. h (suc i) (omega arith)), suc-mul (length l) b)

-- where no entry falls, and the one at i rises
pub total_map : (f : ℕ → ℕ) (l : List ℕ) → ((i : ℕ) → i < length l → get_or l i 0 ≤ f (get_or l i 0)) → total l ≤ total (map f l)
total_map f [] h = omega arith
total_map f (x ∷ l) h = omega (arith, h 0 (omega arith), total_map f l (λ i k. h (suc i) (omega arith)))

pub total_map_rise : (f : ℕ → ℕ) (l : List ℕ) (i : ℕ) → i < length l → get_or l i 0 < f (get_or l i 0)
    → ((j : ℕ) → j < length l → get_or l j 0 ≤ f (get_or l j 0)) → total l < total (map f l)
total_map_rise f [] i h r le = absurd (omega arith)
total_map_rise f (x ∷ l) zero h r le = omega (arith, total_map f l (λ j k. le (suc j) (omega arith)))
total_map_rise f (x ∷ l) (suc i) h r le =
    omega (arith, le 0 (omega arith), total_map_rise f l i (omega arith) r (λ j k. le (suc j) (omega arith)))
