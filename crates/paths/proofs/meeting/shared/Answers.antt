-- The set holds what the rows passed share (Shared).
use Rattle.paths.proofs.RelationLaws.{shared_none, shared_more}
use native.Mathlib.Omega.{arith}
use Rattle.paths.proofs.meeting.shared.Goals as goal

pub loop-t-init : goal.loop-t-init
loop-t-init c = (omega arith, shared_none {b = c.args.bases})

pub loop-t-preserved : goal.loop-t-preserved
loop-t-preserved c = (omega arith, shared_more c.loop-t.invariant.1 c.gather.ensures)
