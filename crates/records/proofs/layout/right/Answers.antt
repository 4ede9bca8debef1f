-- The sizes and the left words come first.
use Rattle.records.specs.Layout.{right_at}
use Rattle.records.proofs.layout.right.Goals as goal

pub returns : goal.returns
unfolding right_at
returns c = rw (← c.entries.ensures.value) c.word.ensures
