-- The nodes passed have been lifted.
use Rattle.primary.proofs.FormedLaws.{turns_none, turns_more}
use Rattle.primary.proofs.rules.lift_all.Goals as goal

pub loop-i-init : goal.loop-i-init
loop-i-init c = turns_none _ _ _ c.requires.2

pub loop-i-preserved : goal.loop-i-preserved
loop-i-preserved c = turns_more _ _ _ _ _ _ _ _ c.loop-i.invariant (rw (c.raise-raised.ensures, c.set_of.ensures) at c.add.ensures)
