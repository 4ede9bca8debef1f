-- The model's total of a list is its sum, which is below what as many of the largest words would give.
use Rattle.std.proofs.Common.{ℕ, suc, ◌*◌, ◌^◌, ◌≤◌, ◌<◌, ◌≡◌, refl, List, [], ◌∷◌, length, get_or, arith}
use Rattle.std.specs.List.{sum}
use Rattle.std.proofs.lemmas.List.Sums.{sum_by-cons}
use Rattle.chase.specs.Primary.{total}
use Rattle.primary.specs.Pass.{Sum}

pub total_sum : (l : List ℕ) → sum l ≡ total l
total_sum [] = refl
total_sum (x ∷ l) = omega (arith, sum_by-cons (λ y. y) x l, total_sum l)

pub total_small : (l : List ℕ) → ((i : ℕ) → get_or l i 0 < 2 ^ 32) → total l ≤ length l * 2 ^ 32
total_small [] h = omega arith
total_small (x ∷ l) h = omega (arith, h 0, total_small l (λ i. h (suc i)))

pub sums : (l : List ℕ) (r : ℕ) → r ≡ sum l → ((i : ℕ) → get_or l i 0 < 2 ^ 32) → Sum l r
sums l r e h = record { value = omega (arith, total_sum l); small = omega (arith, total_sum l, total_small l h) }
