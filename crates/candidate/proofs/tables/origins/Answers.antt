-- The table of the edges passed.
use mathlib.Core.Path.{refl}
use Rattle.candidate.proofs.TableLaws.{origins_none, origins_more, origins_all}
use Rattle.candidate.proofs.tables.origins.Goals as goal

pub loop-edge-init : goal.loop-edge-init
loop-edge-init c = origins_none c.args.edges.now c.args.attribute _ refl

pub loop-edge-preserved : goal.loop-edge-preserved
loop-edge-preserved c = origins_more c.args.edges.now c.args.attribute _ _ _ c.from-w.ensures c.loop-edge-test.true c.loop-edge.invariant

pub returns : goal.returns
returns c = origins_all c.args.edges.now c.args.attribute _ _ c.loop-edge-test.false c.loop-edge.invariant
