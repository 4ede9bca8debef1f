-- The entries passed have been changed.
use Rattle.std.proofs.Common.{◌∙◌, arith}
use Rattle.records.proofs.General.Filling.{changed_more, changed_all}
use Rattle.primary.proofs.prime.move_all.Goals as goal

pub loop-rep-preserved : goal.loop-rep-preserved
loop-rep-preserved c = rw c.moved.ensures (changed_more _ _ _ _ (omega arith) c.loop-rep.invariant)

pub returns : goal.returns
returns c = c.loop-rep.invariant ∙ changed_all _ c.args.reps.now c.loop-rep.rep-index (omega arith)
