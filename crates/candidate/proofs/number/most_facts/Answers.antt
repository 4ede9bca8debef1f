-- Each part is within the limits.
use native.Mathlib.Omega.{arith}
use mathlib.Core.Path.{refl}
use Rattle.candidate.proofs.BoundLaws.{values_few, most_fit}
use Rattle.candidate.proofs.number.most_facts.Goals as goal

pub overflow_add-result : goal.overflow_add-result
overflow_add-result c = omega (arith, values_few c.args.s _ _ c.requires)

pub returns : goal.returns
returns c = (refl, most_fit c.args.s _ _ c.requires)
