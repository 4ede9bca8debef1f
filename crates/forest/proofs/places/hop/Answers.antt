-- The maker, or the made value.
use Rattle.forest.proofs.PlaceLaws.{hopped_ahead, hopped_back}
use Rattle.forest.proofs.places.hop.Goals as goal

pub returns-then-step : goal.returns-then-step
returns-then-step c = hopped_back c.requires.0 _ _ _ c.requires.2 c.if-step.true c.parent.ensures

pub returns-else-step : goal.returns-else-step
returns-else-step c = hopped_ahead c.requires.0 _ _ _ c.requires.2 c.if-step.false c.kid.ensures
