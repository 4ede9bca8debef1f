-- By the refusal, or by the rows (AnswerLaws).
use mathlib.Core.Path.{◌≡◌, sym, ◌∙◌}
use Rattle.std.specs.Prelude.{Err}
use Rattle.std.proofs.lemmas.Grind.{common_steps}
use native.Mathlib.Omega.{arith}
use Rattle.catalogue.proofs.KnownLaws.{few_views}
use Rattle.catalogue.proofs.AnswerLaws.{checked_accepted, order_refused, order_decided}
use Rattle.catalogue.proofs.order.order.Goals as goal

pub returns-in_err-check : goal.returns-in_err-check
returns-in_err-check c =
    let is : c.from_residual.result ≡ Err c.in_err-check.field-0.0 = grind (arith, common_steps) in
    rw is (order_refused _ _ (sym c.in_err-check.ensures))

pub rows-rows-requires : goal.rows-rows-requires
rows-rows-requires c = checked_accepted _ _ (sym c.check.ensures ∙ c.in_ok-check.was)

pub arrange-requires : goal.arrange-requires
arrange-requires c =
    let ok = sym c.check.ensures ∙ c.in_ok-check.was in
    (c.rows-rows.ensures.size, omega (arith, c.views.ensures.value, few_views _ _ (checked_accepted _ _ ok)))

pub returns : goal.returns
returns c =
    order_decided _ _ (sym c.check.ensures ∙ c.in_ok-check.was) _ c.rows-rows.ensures _
    (rw c.views.ensures.value at c.arrange.ensures)
