-- The path before a step is shorter, so the place where it ends is the measure. The step takes its relation, in the spare
-- rows, to that of the whole.
use Rattle.paths.proofs.relation.+relate.Given as goal

abbrev pub decreases-relate : goal.decreases-relate
decreases-relate l = l.end
