-- The objects passed are put in (Below).
use Rattle.rows.specs.Rows.{Below}
use Prim.Native.Nat.{◌≤◌}
use Rattle.rows.proofs.sets.everything.Given as goal

abbrev pub invariant-loop-d : goal.invariant-loop-d
invariant-loop-d l = (l.d ≤ l.n) × Below l.d l.out
