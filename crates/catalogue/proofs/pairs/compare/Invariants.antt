-- The views passed are settled both ways (ComparedLaws).
use Rattle.catalogue.proofs.ComparedLaws.{Compared}
use Rattle.catalogue.proofs.pairs.compare.Given as goal

abbrev pub invariant-loop-i : goal.invariant-loop-i
invariant-loop-i l = Compared l.schema l.catalogue l.initial.rows l.initial.opens l.j l.i l.rows l.opens
