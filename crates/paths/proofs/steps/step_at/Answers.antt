-- The attribute that a token names is a word.
use Rattle.paths.proofs.TokenLaws.{named_small}
use mathlib.Core.Path.{sym, ◌∙◌}
use native.Mathlib.Omega.{arith}
use Rattle.paths.proofs.steps.step_at.Goals as goal

pub overflow_add-result : goal.overflow_add-result
overflow_add-result c = omega (arith, named_small _ c.type_inv.words _ (sym c.token_at.ensures ∙ c.in-Forward.is))

pub overflow_add-result-in-Backward : goal.overflow_add-result-in-Backward
overflow_add-result-in-Backward c = omega (arith, named_small _ c.type_inv.words _ (sym c.token_at.ensures ∙ c.in-Backward.is))
