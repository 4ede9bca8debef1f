-- The nodes passed represent themselves.
use Rattle.std.proofs.Common.{◌≡◌, take}
use Rattle.records.proofs.General.Filling.{listed}
use Rattle.primary.proofs.begin.number.Given as goal

abbrev pub invariant-loop-i : goal.invariant-loop-i
invariant-loop-i l = take l.i l.reps ≡ listed (λ j. j) l.i
