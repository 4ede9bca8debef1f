-- The table of the equations passed (Standing of TieLaws).
use Rattle.asked.proofs.TieLaws.{standing_none, standing_more, standing_all}
use Rattle.asked.proofs.ties.anchors.Goals as goal

pub loop-equation-init : goal.loop-equation-init
loop-equation-init c = standing_none _ _ c.requires.0

pub loop-equation-preserved : goal.loop-equation-preserved
loop-equation-preserved c =
    standing_more _ _ _ _ c.loop-equation.invariant c.loop-equation-test.true c.requires.1 (rw c.from-side.ensures) (rw c.from.ensures)

pub returns-clause-anchored : goal.returns-clause-anchored
returns-clause-anchored c = standing_all _ _ c.loop-equation-test.false c.loop-equation.invariant
