-- The table of the axioms passed grows by the next axiom's entry (Filled of DomainLaws).
use Rattle.classes.proofs.DomainLaws.{Filled}
use Rattle.classes.proofs.domains.domains.Given as goal

abbrev pub invariant-loop-i : goal.invariant-loop-i
invariant-loop-i l = Filled l.schema l.table l.i
