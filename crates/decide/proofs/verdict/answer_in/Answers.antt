-- An accepted schema and the candidate's sizes are within the limits (ListableLaws).
use Rattle.decide.proofs.ListableLaws.{limits}
use Rattle.decide.proofs.verdict.answer_in.Goals as goal

pub most_facts-most-requires : goal.most_facts-most-requires
most_facts-most-requires c = rw c.signature_of.ensures (limits c.requires)
