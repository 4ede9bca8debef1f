-- A schema of the right shape has few constants.
use mathlib.Core.Path.{◌∙◌, sym}
use Rattle.records.proofs.AcceptedLaws.{signature_few}
use Rattle.check_schema.proofs.check_schema.Goals as goal

pub bad_loose-requires : goal.bad_loose-requires
bad_loose-requires c = (signature_few _ (sym c.bad_shape.ensures ∙ c.if-bad_shape.false)).2
