-- The groups before the k-th are found (Placed of ArrangeLaws).
use Prim.Native.Nat.{◌≤◌}
use Rattle.catalogue.specs.Helpers.{in_row}
use Rattle.catalogue.proofs.ArrangeLaws.{Placed}
use Rattle.catalogue.proofs.arrange.arrange.Given as goal

abbrev pub invariant-loop-k : goal.invariant-loop-k
invariant-loop-k l = (l.k ≤ l.n) × Placed l.n (in_row l.rows) l.k l.groups l.placed
