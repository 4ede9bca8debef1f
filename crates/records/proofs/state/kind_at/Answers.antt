-- The first part of the left word.
use Rattle.records.specs.StateRecord.{kind_at}
use Rattle.records.proofs.state.kind_at.Goals as goal

pub returns : goal.returns
unfolding kind_at
returns c = cc
