-- The objects passed lead to themselves, in rows that were cleared (Marking).
use Rattle.paths.proofs.RelationLaws.{marking_none, marking_more, marking_all}
use native.Mathlib.Omega.{arith}
use Rattle.paths.proofs.relation.identity.Goals as goal

pub loop-t-init : goal.loop-t-init
loop-t-init c = (omega arith, marking_none c.clear.ensures)

pub loop-t-preserved : goal.loop-t-preserved
loop-t-preserved c = (omega arith, marking_more c.loop-t.invariant.1 c.loop-t-test.true c.requires.wide c.insert.ensures)

pub returns : goal.returns
returns c = marking_all c.clear.ensures c.loop-t.invariant.1 c.loop-t-test.false
