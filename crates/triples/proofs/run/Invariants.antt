-- Each triple takes at least its sizes off what is left.
use Rattle.std.proofs.Common.{length}
use Rattle.triples.proofs.run.Given as goal

abbrev pub decreases-loop-rest : goal.decreases-loop-rest
decreases-loop-rest g l = length l.rest
