-- A class set is a number: class A is in it if the digit of its place is 1. Union is bit_or.
use Rattle.std.specs.Prelude.{ℕ, ◌-◌, ◌^◌, Bool, not, eqb}
use Rattle.std.specs.Int.Bits.{bit_and}

-- the set of class A alone
unfoldable pub place : ℕ → ℕ
place A = 2 ^ A

-- the two sets share a class
unfoldable pub meets : ℕ → ℕ → Bool
meets c d = not (eqb (bit_and c d) 0)

-- class A is in the set
unfoldable pub has : ℕ → ℕ → Bool
has c A = meets c (place A)

-- all classes below n
unfoldable pub full : ℕ → ℕ
full n = 2 ^ n - 1
