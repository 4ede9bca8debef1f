-- The marks passed have their objects.
use Prim.Native.Nat.{◌≤◌}
use Rattle.records.specs.Layout.{max_marks}
use Rattle.chase.specs.Written.{gather}
use Rattle.candidate.specs.Facts.{mark_row}
use Rattle.candidate.specs.Writing.{Wrote}
use Rattle.candidate.proofs.marks.mark_facts.Given as goal

abbrev pub invariant-loop-k : goal.invariant-loop-k
invariant-loop-k l = (l.k ≤ max_marks) × Wrote l.count (gather l.k (mark_row l.s l.reps l.nodes)) l.initial.out l.at l.out
