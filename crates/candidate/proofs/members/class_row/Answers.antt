-- The objects passed are written.
use native.Mathlib.Nat.{le_antisymm}
use native.Mathlib.Omega.{arith}
use mathlib.Core.List.{[]}
use Rattle.candidate.proofs.MemberLaws.{class_is}
use Rattle.candidate.proofs.WriteLaws.{room_as, wrote_as, turn_none, turn_room, turn_more, turn_all}
use Rattle.candidate.proofs.members.class_row.Goals as goal

pub loop-d-init : goal.loop-d-init
loop-d-init c = (omega arith, turn_none _ _ _)

pub fact-requires : goal.fact-requires
fact-requires c = (omega (arith, c.requires.sized.1), omega (arith, c.requires.sized.0.small), omega arith)

pub put_if-at-requires : goal.put_if-at-requires
put_if-at-requires c =
    room_as _ _ _ _
    (class_is _ _ _ _ _ _ _ _ _ (c.classes_of-set.ensures []) c.place-own.ensures c.meets.ensures c.fact.ensures)
    (turn_room _ _ _ _ _ _ _ c.loop-d-test.true c.requires.room c.loop-d.invariant.1)

pub loop-d-preserved : goal.loop-d-preserved
loop-d-preserved c = (
  omega arith,
  turn_more _ _ _ _ _ _ _ _ c.loop-d.invariant.1
      (wrote_as _ _ _ _ _ _
      (class_is _ _ _ _ _ _ _ _ _ (c.classes_of-set.ensures []) c.place-own.ensures c.meets.ensures c.fact.ensures) c.put_if-at.ensures),
)

pub returns : goal.returns
returns c = turn_all _ _ _ _ _ _ _ (le_antisymm c.loop-d.invariant.0 c.loop-d-test.false) c.loop-d.invariant.1
