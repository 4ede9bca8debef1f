-- The views passed are compared with each other (ComparedLaws).
use mathlib.Core.Path.{◌∙◌}
use native.Mathlib.Nat.{le_antisymm}
use native.Mathlib.Omega.{arith}
use Rattle.catalogue.proofs.ComparedLaws.{met_none, met_more, met_all}
use Rattle.catalogue.proofs.pairs.settle_all.Goals as goal

pub loop-j-init : goal.loop-j-init
loop-j-init c = (omega arith, met_none _ _ c.requires)

pub loop-j-preserved : goal.loop-j-preserved
loop-j-preserved c =
    (omega arith, met_more _ _ (omega (arith, c.views-n.ensures.value)) c.loop-j.invariant.1 c.compare.ensures.grown c.compare.ensures.told)

pub returns : goal.returns
returns c =
    let e = le_antisymm c.loop-j.invariant.0 c.loop-j-test.false ∙ c.views-n.ensures.value in
    met_all _ _ (rw e at c.loop-j.invariant.1)
