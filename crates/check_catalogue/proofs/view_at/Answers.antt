-- The part from where the view starts, as long as its length word says.
use Prim.Native.Nat.{◌+◌, ◌-◌}
use mathlib.Core.Path.{◌≡◌, refl}
use native.Mathlib.Omega.{arith}
use Rattle.records.specs.CatalogueRecord.{view_at}
use Rattle.check_catalogue.proofs.view_at.Goals as goal

pub start_at-from-requires : goal.start_at-from-requires
start_at-from-requires c = c.requires.0

pub length_at-requires : goal.length_at-requires
length_at-requires c = c.requires.0

pub returns : goal.returns
unfolding view_at
returns c =
    let from = c.start_at-from.result in
    let e : from + c.length_at.result - from ≡ c.length_at.result = omega arith in
    rw (e, c.start_at-from.ensures, c.length_at.ensures.value) refl
