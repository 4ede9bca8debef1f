-- The entries passed have been changed.
use Rattle.std.proofs.Common.{◌≡◌}
use Rattle.primary.specs.Formed.{moved}
use Rattle.records.proofs.General.Filling.{changed}
use Rattle.primary.proofs.prime.move_all.Given as goal

abbrev pub invariant-loop-rep : goal.invariant-loop-rep
invariant-loop-rep l = l.reps ≡ changed (moved l.low l.high) l.initial.reps l.rep-index
