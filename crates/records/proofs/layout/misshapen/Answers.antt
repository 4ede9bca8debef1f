-- The two tests of the definition.
use Rattle.records.specs.Layout.{length_for}
use Rattle.records.specs.Shape.{misshapen}
use Rattle.records.proofs.layout.misshapen.Goals as goal

pub returns : goal.returns
unfolding misshapen length_for
returns c = rw (← c.entries.ensures.value)
