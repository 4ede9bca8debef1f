-- The view has been walked from the objects passed.
use native.Mathlib.Omega.{arith}
use Rattle.forest.proofs.RoundLaws.{rounds_none, round_walk, rounds_next, rounds_all}
use Rattle.forest.proofs.walk.walks.Goals as goal

pub loop-start-init : goal.loop-start-init
loop-start-init c = (omega arith, rounds_none c.args.schema.now c.args.view.now c.args.edges.now _ _ c.requires.0 c.requires.1 c.requires.2 c.requires.3)

pub walk-n-requires : goal.walk-n-requires
walk-n-requires c = round_walk c.args.schema.now c.args.view.now c.args.edges.now _ _ c.requires.0 c.requires.1 c.requires.2 c.requires.3 c.loop-start-test.true c.loop-start.invariant.1 c.begin.ensures c.tokens-end.ensures.value

pub loop-start-preserved : goal.loop-start-preserved
loop-start-preserved c = (omega arith, rounds_next c.args.schema.now c.args.view.now c.args.edges.now _ _ c.requires.0 c.requires.1 c.requires.2 c.requires.3 c.loop-start-test.true c.loop-start.invariant.1 c.begin.ensures c.tokens-end.ensures.value c.walk-n.ensures)

pub returns : goal.returns
returns c = rounds_all c.args.schema.now c.args.view.now c.args.edges.now _ _ c.requires.0 c.requires.1 c.requires.2 c.requires.3 c.loop-start.invariant.0 c.loop-start-test.false c.loop-start.invariant.1
