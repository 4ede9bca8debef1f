-- The objects passed are put in (Below).
use Rattle.rows.proofs.RowLaws.{below_none, below_more}
use native.Mathlib.Nat.{le_antisymm}
use native.Mathlib.Omega.{arith}
use Rattle.rows.proofs.sets.everything.Goals as goal

pub loop-d-init : goal.loop-d-init
loop-d-init c = (omega arith, below_none)

pub loop-d-preserved : goal.loop-d-preserved
loop-d-preserved c = (omega arith, below_more c.loop-d.invariant.1 c.insert.ensures)

pub returns : goal.returns
returns c = rw (le_antisymm c.loop-d.invariant.0 c.loop-d-test.false) at c.loop-d.invariant.1
