-- By the kind.
use Rattle.records.specs.StateRecord.{is_class_fact}
use Rattle.records.proofs.state.is_class_fact.Goals as goal

pub returns : goal.returns
unfolding is_class_fact
returns c = rw c.kind_at.ensures
