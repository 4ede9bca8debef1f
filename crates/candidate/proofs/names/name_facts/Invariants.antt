-- The constants passed are named.
use Prim.Native.Nat.{◌≤◌}
use Rattle.chase.specs.Written.{gather}
use Rattle.candidate.specs.Facts.{name_row}
use Rattle.candidate.specs.Writing.{Wrote}
use Rattle.candidate.proofs.names.name_facts.Given as goal

abbrev pub invariant-loop-a : goal.invariant-loop-a
invariant-loop-a l = (l.a ≤ l.constants) × Wrote l.count (gather l.a (name_row l.reps l.first)) l.initial.out l.at l.out
