-- The axiom of the two words at the place.
use Rattle.records.specs.SchemaRecord.{schema_of}
use Rattle.records.proofs.schema.axiom_at.Goals as goal

pub returns : goal.returns
unfolding schema_of
returns c = cc
