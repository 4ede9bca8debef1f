-- No object passed is the value made.
use native.Mathlib.Omega.{arith}
use Rattle.forest.proofs.ReadLaws.{below_first, below_met, below_more}
use Rattle.forest.proofs.objects.kid.Goals as goal

pub loop-e-preserved : goal.loop-e-preserved
loop-e-preserved c = (
  omega arith,
  below_more _ _ _ _ _ c.requires.0 _ c.loop-e-test.true c.loop-e.auto.e c.loop-e.invariant.1 c.if-objects-e.false,
)

pub returns-then-objects-e : goal.returns-then-objects-e
returns-then-objects-e c =
    below_met _ _ _ _ _ c.requires.0 _ c.loop-e-test.true c.loop-e.auto.e c.loop-e.invariant.1 c.requires.2 c.if-objects-e.true

pub returns : goal.returns
returns c = below_first _ _ _ _ _ c.requires.0 _ c.loop-e.invariant.0 (omega arith) c.loop-e.invariant.1
