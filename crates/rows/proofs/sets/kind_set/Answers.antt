-- The set holds the objects of the facts passed (Naming); before the row of the kind and after it there are none.
use Rattle.rows.proofs.KindSetLaws.{naming_none, naming_more, naming_all, object_few}
use native.Mathlib.Omega.{arith}
use Rattle.rows.proofs.sets.kind_set.Goals as goal

pub first_of_kind-from-requires : goal.first_of_kind-from-requires
first_of_kind-from-requires c = c.requires.0

pub overflow_add-kind : goal.overflow_add-kind
overflow_add-kind c = omega (arith, c.requires.2)

pub first_of_kind-to-requires : goal.first_of_kind-to-requires
first_of_kind-to-requires c = c.requires.0

pub loop-i-init : goal.loop-i-init
loop-i-init c = (omega arith, c.first_of_kind-from.ensures.within, naming_none c.first_of_kind-from.ensures)

pub object_at-requires : goal.object_at-requires
object_at-requires c = omega (arith, c.loop-i-test.true, c.first_of_kind-to.ensures.within, c.requires.1)

pub insert-requires : goal.insert-requires
insert-requires c = omega (arith, c.object_at.ensures, object_few c.args.state.now c.loop-i.i, c.loop-i.invariant.2.size)

pub loop-i-preserved : goal.loop-i-preserved
loop-i-preserved c = (omega arith, omega (arith, c.loop-i-test.true, c.first_of_kind-to.ensures.within), naming_more c.first_of_kind-from.ensures c.first_of_kind-to.ensures c.loop-i.invariant.0 c.loop-i-test.true c.object_at.ensures c.loop-i.invariant.2 c.insert.ensures)

pub returns : goal.returns
returns c = naming_all c.loop-i.invariant.2 c.first_of_kind-to.ensures c.loop-i-test.false c.loop-i.invariant.1
