-- The set at the representative.
use Rattle.std.proofs.Common.{refl}
use Rattle.chase.specs.Primary.{rep_of, set_of}
use Rattle.primary.proofs.prime.set_of.Goals as goal

pub returns : goal.returns
unfolding set_of rep_of
returns c = refl
