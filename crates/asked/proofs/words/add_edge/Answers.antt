-- A backward step is a pair the other way round.
use Rattle.asked.proofs.words.add_edge.Goals as goal

pub returns : goal.returns
returns c = rw c.if-backward.false c.add_pair-2.ensures
