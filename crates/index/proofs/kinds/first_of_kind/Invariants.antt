-- What lies before low is of a lower kind, and what lies from high on is not; the kinds rise, so one look at the middle
-- settles the half before it or the half from it on.
use Prim.Native.Nat.{◌-◌}
use Rattle.index.specs.Kinds.{KindParts}
use Rattle.index.proofs.kinds.first_of_kind.Given as goal

abbrev pub invariant-loop-low : goal.invariant-loop-low
invariant-loop-low l = KindParts l.state l.kind l.low l.high

abbrev pub decreases-loop-low : goal.decreases-loop-low
decreases-loop-low l = l.high - l.low
