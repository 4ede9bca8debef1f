-- The first size word.
use Rattle.records.specs.Layout.{size_at}
use Rattle.records.specs.StateRecord.{objects}
use Rattle.records.proofs.state.objects.Goals as goal

pub returns : goal.returns
unfolding objects size_at
returns c = c.word.ensures
