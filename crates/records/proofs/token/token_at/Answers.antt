-- The token of the two words at the place.
use Rattle.records.specs.ConceptRecord.{token_at}
use Rattle.records.proofs.token.token_at.Goals as goal

pub returns : goal.returns
unfolding token_at
returns c = cc
