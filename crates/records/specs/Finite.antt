-- Searches over the numbers below n, by a test f: whether all pass, whether some does, how many do, the first, and the set of
-- them; and sums. Plain mathematics; no part of the papers.
use Rattle.std.specs.Prelude.{ℕ, zero, suc, ◌+◌, ◌/◌, ◌%◌, ◌^◌, Bool, true, false, cond, ◌&&◌, ◌||◌, eqb}

unfoldable pub all : ℕ → (ℕ → Bool) → Bool
all zero f = true
all (suc n) f = all n f && f n

unfoldable pub any : ℕ → (ℕ → Bool) → Bool
any zero f = false
any (suc n) f = any n f || f n

unfoldable pub count : ℕ → (ℕ → Bool) → ℕ
count zero f = zero
count (suc n) f = cond (f n) (suc (count n f)) (count n f)

-- what f gives for the numbers below n, added up
unfoldable pub sum : ℕ → (ℕ → ℕ) → ℕ
sum zero f = zero
sum (suc n) f = sum n f + f n

-- the lowest number below n that passes, or n where none does
unfoldable pub least : ℕ → (ℕ → Bool) → ℕ
least zero f = zero
least (suc n) f = cond (any n f) (least n f) (cond (f n) n (suc n))

-- A set of numbers is a number: k is in it if digit k, counted from the lowest, is 1.
abbrev pub bit : ℕ → ℕ → Bool
bit x k = eqb (x / 2 ^ k % 2) 1

-- the numbers below n that pass
unfoldable pub set_of : ℕ → (ℕ → Bool) → ℕ
set_of n f = sum n λ k. cond (f k) (2 ^ k) 0
