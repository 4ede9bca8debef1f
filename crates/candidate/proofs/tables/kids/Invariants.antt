-- The table of the objects passed.
use Prim.Native.Nat.{◌≤◌}
use Rattle.candidate.specs.Tables.{Kids}
use Rattle.candidate.proofs.tables.kids.Given as goal

abbrev pub invariant-loop-e : goal.invariant-loop-e
invariant-loop-e l = (l.g ≤ l.e) × (l.e ≤ l.n) × Kids l.g l.e l.objects l.attribute l.table
