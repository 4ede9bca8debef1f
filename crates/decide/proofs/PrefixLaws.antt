-- What has been written at the start of a list.
use Prim.Native.Nat.{ℕ, ◌≤◌}
use mathlib.Core.List.{List, ◌++◌}
use mathlib.Core.Path.{◌≡◌, sym, ap, ◌∙◌}
use native.Mathlib.Omega.{arith}
use lib.ListN.{length, take, length-append}
use lib.Seq.{take_at}

module _ (front rest l : List ℕ) (n : ℕ) (e : l ≡ front ++ rest) (k : n ≡ length front) where
  pub prefix_fits : n ≤ length l
  prefix_fits = omega (arith, k, ap length e, length-append front rest)

  pub prefix_is : take n l ≡ front
  prefix_is = rw e (take_at front rest n (sym k))

  pub prefix_length : n ≡ length (take n l)
  prefix_length = k ∙ sym (ap length prefix_is)
