-- The views passed are compared with each other (ComparedLaws).
use Prim.Native.Nat.{◌≤◌}
use Rattle.catalogue.proofs.ComparedLaws.{Met}
use Rattle.catalogue.proofs.pairs.settle_all.Given as goal

abbrev pub invariant-loop-j : goal.invariant-loop-j
invariant-loop-j l = (l.j ≤ l.n) × Met l.schema l.catalogue l.j l.rows l.opens
