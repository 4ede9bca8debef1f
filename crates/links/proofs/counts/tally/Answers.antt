-- The counts of the facts passed (Tallied); before the row of the kind and after it there are no links.
use native.Mathlib.Omega.{arith}
use Rattle.records.proofs.General.BoolLaws.{byte_small}
use Rattle.links.proofs.CountLaws.{second_is, second_few, link_here, tallied_none, tallied_few, tallied_more, tallied_all}
use Rattle.links.proofs.counts.tally.Goals as goal

pub loop-i-init : goal.loop-i-init
loop-i-init c = (omega arith, c.first_of_kind-from.ensures.within, tallied_none _ _ _ c.first_of_kind-from.ensures)

pub offset_bounds-counts-second : goal.offset_bounds-counts-second
offset_bounds-counts-second c =
    omega (arith, second_few c.requires c.first_of_kind-to.ensures c.loop-i-test.true (second_is _ _ c.state_layout.ensures c.right-second.ensures))

pub bounds-counts-second : goal.bounds-counts-second
bounds-counts-second c = second_few c.requires c.first_of_kind-to.ensures c.loop-i-test.true (second_is _ _ c.state_layout.ensures c.right-second.ensures)

pub overflow_add-counts : goal.overflow_add-counts
overflow_add-counts c =
    omega (
      arith,
      tallied_few _ _ _ c.loop-i.invariant.2
          (second_few c.requires c.first_of_kind-to.ensures c.loop-i-test.true (second_is _ _ c.state_layout.ensures c.right-second.ensures)),
      c.loop-i.invariant.1,
      c.requires.few,
      c.from.ensures,
      byte_small c.is_link.result,
    )

pub loop-i-preserved : goal.loop-i-preserved
loop-i-preserved c =
    let second = second_is _ _ c.state_layout.ensures c.right-second.ensures in (
      omega arith,
      omega (arith, c.loop-i-test.true, c.first_of_kind-to.ensures.within),
      rw c.from.ensures
          (tallied_more _ _ _ c.loop-i.invariant.2 second (second_few c.requires c.first_of_kind-to.ensures c.loop-i-test.true second)
          (link_here _ _ _ c.first_of_kind-from.ensures c.first_of_kind-to.ensures c.loop-i.invariant.0 c.loop-i-test.true c.is_link.ensures)),
    )

pub returns : goal.returns
returns c = tallied_all _ _ _ c.loop-i.invariant.2 c.first_of_kind-to.ensures c.loop-i-test.false c.loop-i.invariant.1
