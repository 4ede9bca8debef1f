-- The views passed are settled both ways (ComparedLaws).
use native.Mathlib.Omega.{arith}
use Rattle.catalogue.proofs.ComparedLaws.{compared_none, compared_more}
use Rattle.catalogue.proofs.pairs.compare.Goals as goal

pub loop-i-init : goal.loop-i-init
loop-i-init c = compared_none _ _ _ c.requires.0

pub loop-i-preserved : goal.loop-i-preserved
loop-i-preserved c =
    compared_more _ _ (omega arith) c.loop-i.invariant c.settle.ensures.grown c.settle.ensures.told c.settle-in-loop-i.ensures.grown c.settle-in-loop-i.ensures.told

pub returns : goal.returns
returns c = let z = c.loop-i.invariant in record { grown = z.grown; told = λ a h. z.told a (omega arith) h }
