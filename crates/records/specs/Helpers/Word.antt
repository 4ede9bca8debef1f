-- What the readers of a record promise: the value, and a bound that keeps sums of places small.
use Rattle.std.specs.Prelude.{ℕ, ◌<◌, ◌^◌, ◌≡◌}
use Rattle.records.specs.declared.layout.Layout.{Layout}

pub record IsWord (x r : ℕ) : Type 0 where
  pub value : r ≡ x
  pub word : r < 2 ^ 16

pub record IsLayout (L r : Layout) : Type 0 where
  pub value : r ≡ L
  pub small : r.sizes < 2 ^ 16
