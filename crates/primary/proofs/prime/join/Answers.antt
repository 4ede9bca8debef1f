-- The representatives have moved, and one store joins the sets.
use Rattle.std.proofs.Common.{refl}
use Rattle.primary.proofs.FormedLaws.{becomes_join}
use Rattle.primary.proofs.prime.join.Goals as goal

pub returns : goal.returns
returns c = becomes_join _ _ c.requires.0 _ _ _ _ c.requires.2 c.move_all.ensures refl
