-- Each return is by the first refusal that applies, or by the rows (CataloguedLaws).
use mathlib.Core.Path.{◌≡◌, sym, ap, ◌∙◌}
use native.Mathlib.Omega.{arith}
use Rattle.std.specs.Prelude.{Err}
use Rattle.std.proofs.lemmas.Grind.{common_steps}
use Rattle.records.specs.Refusal.{refusal_in}
use Rattle.catalogue.proofs.AnswerLaws.{accepted_of, refusal_checked}
use Rattle.bikuvoa_c.proofs.CataloguedLaws.{by_records, by_length, by_rows}
use Rattle.bikuvoa_c.proofs.catalogues.catalogued.Goals as goal

pub returns-in_err-check : goal.returns-in_err-check
returns-in_err-check c =
    let turned = by_records _ _ _ _ (refusal_checked _ _ ∙ ap refusal_in (sym c.check.ensures ∙ c.in_err-check.was)) in
    let same : c.from_residual.result ≡ Err c.in_err-check.field-0.0 = grind (arith, common_steps) in
    rw same turned

pub returns-then-rows-order : goal.returns-then-rows-order
returns-then-rows-order c =
    by_length _ _ _ _ (refusal_checked _ _ ∙ ap refusal_in (sym c.check.ensures ∙ c.in_ok-check.was)) c.if-rows-order.true

pub rows-held-requires : goal.rows-held-requires
rows-held-requires c = accepted_of _ _ (refusal_checked _ _ ∙ ap refusal_in (sym c.check.ensures ∙ c.in_ok-check.was))

pub returns : goal.returns
returns c =
    let none = refusal_checked c.args.schema.now c.args.views.now ∙ ap refusal_in (sym c.check.ensures ∙ c.in_ok-check.was) in
    let arranged = rw c.views.ensures.value at c.arrange-arranged.ensures in
    rw (c.put.ensures, c.put-2.ensures) (by_rows _ _ _ _ none c.if-rows-order.false _ c.rows-held.ensures _ arranged)
