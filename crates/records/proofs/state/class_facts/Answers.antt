-- The third size word.
use Rattle.records.specs.Layout.{size_at}
use Rattle.records.specs.StateRecord.{class_facts}
use Rattle.records.proofs.state.class_facts.Goals as goal

pub returns : goal.returns
unfolding class_facts size_at
returns c = c.word.ensures
