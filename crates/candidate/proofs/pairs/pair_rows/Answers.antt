-- The attributes passed are written.
use native.Mathlib.Nat.{le_antisymm}
use native.Mathlib.Omega.{arith}
use Rattle.candidate.proofs.WriteLaws.{turn_none, turn_room, turn_more, turn_all}
use Rattle.candidate.proofs.pairs.pair_rows.Goals as goal

pub loop-attribute-init : goal.loop-attribute-init
loop-attribute-init c = (omega arith, turn_none _ _ _)

pub pair_row-at-requires : goal.pair_row-at-requires
pair_row-at-requires c = record { sized = (c.requires.sized.0, omega (arith, c.requires.sized.1)); room = turn_room _ _ _ _ _ _ _ c.loop-attribute-test.true c.requires.room c.loop-attribute.invariant.1 }

pub loop-attribute-preserved : goal.loop-attribute-preserved
loop-attribute-preserved c = (omega arith, turn_more _ _ _ _ _ _ _ _ c.loop-attribute.invariant.1 c.pair_row-at.ensures)

pub returns : goal.returns
returns c = turn_all _ _ _ _ _ _ _ (le_antisymm c.loop-attribute.invariant.0 c.loop-attribute-test.false) c.loop-attribute.invariant.1
