-- The entries of the record.
use Rattle.records.proofs.state.facts.Goals as goal

pub returns : goal.returns
returns c =
    rw (← c.state_layout.ensures.value) c.entries.ensures
