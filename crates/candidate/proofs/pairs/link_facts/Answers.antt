-- The objects passed are written where the query has the pair.
use native.Mathlib.Nat.{le_antisymm}
use native.Mathlib.Omega.{arith}
use mathlib.Core.Path.{ap₂}
use Rattle.candidate.proofs.WriteLaws.{room_as, wrote_as, turn_none, turn_room, turn_more, turn_all}
use Rattle.candidate.specs.Writing.{fact_if}
use Rattle.candidate.proofs.pairs.link_facts.Goals as goal

pub loop-e-init : goal.loop-e-init
loop-e-init c = (omega arith, turn_none _ _ _)

pub fact-requires : goal.fact-requires
fact-requires c = let p = c.requires.g_le_max_objects in (omega (arith, p.1), p.2, omega (arith, p.0))

pub put_if-at-requires : goal.put_if-at-requires
put_if-at-requires c =
    room_as _ _ _ _ (ap₂ fact_if (c.linked-link.ensures _ _) c.fact.ensures)
    (turn_room _ _ _ _ _ _ _ c.loop-e-test.true c.requires.room c.loop-e.invariant.1)

pub loop-e-preserved : goal.loop-e-preserved
loop-e-preserved c = (
  omega arith,
  turn_more _ _ _ _ _ _ _ _ c.loop-e.invariant.1
      (wrote_as _ _ _ _ _ _ (ap₂ fact_if (c.linked-link.ensures _ _) c.fact.ensures) c.put_if-at.ensures),
)

pub returns : goal.returns
returns c = turn_all _ _ _ _ _ _ _ (le_antisymm c.loop-e.invariant.0 c.loop-e-test.false) c.loop-e.invariant.1
