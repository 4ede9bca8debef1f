-- The table of the equations passed (Standing of TieLaws).
use Rattle.asked.proofs.TieLaws.{Standing}
use Rattle.asked.proofs.ties.anchors.Given as goal

abbrev pub invariant-loop-equation : goal.invariant-loop-equation
invariant-loop-equation l = Standing l.start l.equations l.equation-index l.nodes
