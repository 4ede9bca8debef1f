-- The words passed are joined (Filled); what a turn reads is still as it was.
use Rattle.rows.proofs.BlockLaws.{joining_word, joined_of}
use Rattle.rows.proofs.RowLaws.{filled_none, filled_more, filled_all}
use mathlib.Core.Path.{refl}
use native.Mathlib.Omega.{arith}
use Rattle.rows.proofs.blocks.join.Goals as goal

pub loop-j-init : goal.loop-j-init
loop-j-init c = filled_none

pub loop-j-preserved : goal.loop-j-preserved
loop-j-preserved c = filled_more c.loop-j.invariant refl (omega arith) (joining_word c.args.r c.args.set.now c.loop-j.invariant)

pub returns : goal.returns
returns c = joined_of (filled_all c.loop-j.invariant (omega arith) (omega arith))
