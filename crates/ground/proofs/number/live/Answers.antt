-- The test of the definition.
use Rattle.std.proofs.Common.{refl}
use Rattle.chase.specs.Primary.{rep_of}
use Rattle.chase.specs.Ground.{live}
use Rattle.ground.proofs.number.live.Goals as goal

pub returns : goal.returns
unfolding live rep_of
returns c = refl
