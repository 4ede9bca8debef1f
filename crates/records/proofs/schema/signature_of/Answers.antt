-- The size words but the number of axioms.
use Rattle.records.specs.Layout.{size_at}
use Rattle.records.specs.SchemaRecord.{signature_of}
use Rattle.records.proofs.schema.signature_of.Goals as goal

pub returns : goal.returns
unfolding signature_of size_at
returns c = cc
