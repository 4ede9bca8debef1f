-- By the check, or by what accepted records are told (DecisionLaws).
use mathlib.Core.Path.{◌≡◌, sym, ◌∙◌}
use Rattle.std.specs.Prelude.{Err}
use Rattle.std.proofs.lemmas.Grind.{common_steps}
use native.Mathlib.Omega.{arith}
use Rattle.decide.proofs.DecisionLaws.{accepted, holds_refused, holds_decided}
use Rattle.decide.proofs.holds.holds.Goals as goal

pub returns-in_err-check : goal.returns-in_err-check
returns-in_err-check c =
    let is : c.from_residual.result ≡ Err c.in_err-check.field-0.0 = grind (arith, common_steps) in
    rw is (holds_refused _ _ _ (sym c.in_err-check.ensures))

pub held-requires : goal.held-requires
held-requires c = accepted _ _ _ (sym c.check.ensures ∙ c.in_ok-check.was)

pub returns : goal.returns
returns c = holds_decided _ _ _ (sym c.check.ensures ∙ c.in_ok-check.was) c.held.ensures
