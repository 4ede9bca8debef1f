-- The objects passed have got their values.
use Rattle.forest.proofs.GrowLaws.{made_none, make_next, made_more, made_all_lem}
use Rattle.forest.proofs.make.make_all.Goals as goal

pub loop-d-init : goal.loop-d-init
loop-d-init c = made_none c.args.schema.now c.args.edges.now c.args.objects.now _ _ c.args.need c.args.list.now c.requires.kept

pub make-size-requires : goal.make-size-requires
make-size-requires c = make_next c.args.schema.now c.args.edges.now c.args.objects.now _ _ c.args.need c.args.list.now c.requires _ _ _ _ c.loop-d-test.true c.from.ensures c.loop-d.invariant

pub loop-d-preserved : goal.loop-d-preserved
loop-d-preserved c = made_more c.args.schema.now c.args.edges.now c.args.objects.now _ _ c.args.need c.args.list.now c.requires _ _ _ _ c.loop-d-test.true c.from.ensures c.loop-d.invariant _ _ c.make-size.ensures

pub returns : goal.returns
returns c = made_all_lem c.args.schema.now c.args.edges.now c.args.objects.now _ _ c.args.need c.args.list.now _ c.loop-d-test.false c.loop-d.invariant
