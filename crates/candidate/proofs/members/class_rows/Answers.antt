-- The classes passed are written.
use native.Mathlib.Nat.{le_antisymm}
use native.Mathlib.Omega.{arith}
use Rattle.candidate.proofs.WriteLaws.{turn_none, turn_room, turn_more, turn_all}
use Rattle.candidate.proofs.members.class_rows.Goals as goal

pub loop-class-init : goal.loop-class-init
loop-class-init c = (omega arith, turn_none _ _ _)

pub class_row-at-requires : goal.class_row-at-requires
class_row-at-requires c = record { sized = (c.requires.sized.0, omega (arith, c.requires.sized.1)); room = turn_room _ _ _ _ _ _ _ c.loop-class-test.true c.requires.room c.loop-class.invariant.1 }

pub loop-class-preserved : goal.loop-class-preserved
loop-class-preserved c = (omega arith, turn_more _ _ _ _ _ _ _ _ c.loop-class.invariant.1 c.class_row-at.ensures)

pub returns : goal.returns
returns c = turn_all _ _ _ _ _ _ _ (le_antisymm c.loop-class.invariant.0 c.loop-class-test.false) c.loop-class.invariant.1
