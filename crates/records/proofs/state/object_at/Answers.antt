-- The second part of the left word.
use Rattle.records.specs.StateRecord.{object_at}
use Rattle.records.proofs.state.object_at.Goals as goal

pub returns : goal.returns
unfolding object_at
returns c = cc
