-- The sizes come first.
use Rattle.records.specs.Layout.{left_at}
use Rattle.records.proofs.layout.left.Goals as goal

pub returns : goal.returns
unfolding left_at
returns c = c.word.ensures
