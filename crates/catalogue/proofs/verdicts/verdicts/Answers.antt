-- By the refusal, or by the rows (AnswerLaws).
use mathlib.Core.Path.{◌≡◌, sym, ◌∙◌}
use Rattle.std.specs.Prelude.{Err}
use Rattle.std.proofs.lemmas.Grind.{common_steps}
use native.Mathlib.Omega.{arith}
use Rattle.catalogue.proofs.AnswerLaws.{checked_accepted, verdicts_refused, verdicts_decided}
use Rattle.catalogue.proofs.verdicts.verdicts.Goals as goal

pub returns-in_err-check : goal.returns-in_err-check
returns-in_err-check c =
    let is : c.from_residual.result ≡ Err c.in_err-check.field-0.0 = grind (arith, common_steps) in
    rw is (verdicts_refused _ _ (sym c.in_err-check.ensures))

pub rows-rows-requires : goal.rows-rows-requires
rows-rows-requires c = checked_accepted _ _ (sym c.check.ensures ∙ c.in_ok-check.was)

pub returns : goal.returns
returns c =
    verdicts_decided _ _ (sym c.check.ensures ∙ c.in_ok-check.was) _ c.rows-rows.ensures _
    (rw c.views.ensures.value at c.table.ensures)
