-- One store, at the representative.
use Rattle.std.proofs.Common.{refl}
use Rattle.primary.proofs.FormedLaws.{becomes_add}
use Rattle.primary.proofs.prime.add.Goals as goal

pub returns : goal.returns
returns c = becomes_add _ _ c.requires.0 _ _ _ refl
