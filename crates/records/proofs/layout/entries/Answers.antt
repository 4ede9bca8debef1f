-- The size word that the layout names.
use Rattle.records.specs.Layout.{entries, size_at}
use Rattle.records.proofs.layout.entries.Goals as goal

pub returns : goal.returns
unfolding entries size_at
returns c = c.word.ensures
