-- The classes passed are written.
use Prim.Native.Nat.{◌≤◌}
use Rattle.chase.specs.Written.{gather}
use Rattle.candidate.specs.Facts.{members_in}
use Rattle.candidate.specs.Writing.{Wrote}
use Rattle.candidate.proofs.members.class_rows.Given as goal

abbrev pub invariant-loop-class : goal.invariant-loop-class
invariant-loop-class l =
    (l.class ≤ l.classes) × Wrote l.count (gather l.class (members_in l.schema l.objects l.sizes)) l.initial.out l.at l.out
