-- One more where something is lacking.
use native.Mathlib.Omega.{arith}
use Rattle.candidate.proofs.SearchLaws.{objects_on, objects_off}
use Rattle.forest.proofs.ObjectLaws.{size_laid}
use Rattle.candidate.proofs.number.count_objects.Goals as goal

pub overflow_add-result : goal.overflow_add-result
overflow_add-result c = omega (arith, c.requires.1.laid.fits)

pub returns-then-lacking : goal.returns-then-lacking
returns-then-lacking c =
    objects_on _ _ _ _ _ (size_laid _ _ _ c.requires.1.laid c.args.objects.now c.args.edges.now) c.lacking.ensures c.if-lacking.true

pub returns-else-lacking : goal.returns-else-lacking
returns-else-lacking c =
    objects_off _ _ _ _ _ (size_laid _ _ _ c.requires.1.laid c.args.objects.now c.args.edges.now) c.lacking.ensures c.if-lacking.false
