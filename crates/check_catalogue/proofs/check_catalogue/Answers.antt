-- The views passed are accepted (CatalogueLaws).
use mathlib.Core.Path.{sym, ap, ◌∙◌}
use native.Mathlib.Nat.{le_antisymm}
use native.Mathlib.Numerals.{add-one}
use native.Mathlib.Omega.{arith}
use Rattle.records.specs.Refusal.{refusal_in}
use Rattle.records.specs.ConceptRefusal.{concept_answer}
use Rattle.records.proofs.OutcomeLaws.{answer_passed}
use Rattle.records.proofs.CatalogueLaws.{view_inside, views_none, views_more, catalogue_13, catalogue_view, catalogue_none}
use Rattle.check_catalogue.proofs.check_catalogue.Goals as goal

pub returns-then-bad_layout : goal.returns-then-bad_layout
returns-then-bad_layout c = sym (catalogue_13 _ _ (sym c.bad_layout.ensures ∙ c.if-bad_layout.true))

pub loop-i-init : goal.loop-i-init
loop-i-init c = (omega arith, views_none _ _)

pub view_at-requires : goal.view_at-requires
view_at-requires c =
    view_inside _ (sym c.bad_layout.ensures ∙ c.if-bad_layout.false) _ (omega (arith, c.views-n.ensures.value))

pub returns-in_default : goal.returns-in_default
returns-in_default c =
    let read = ap refusal_in (sym (ap (concept_answer _ _) c.view_at.ensures) ∙ sym c.check_concept-read.ensures ∙ c.unwrap_err.ensures) in
    sym (catalogue_view _ _ (sym c.bad_layout.ensures ∙ c.if-bad_layout.false) _ (omega (arith, c.views-n.ensures.value)) c.loop-i.invariant.1 _ read)

pub loop-i-preserved : goal.loop-i-preserved
loop-i-preserved c =
    let read = answer_passed (sym (ap (concept_answer _ _) c.view_at.ensures) ∙ sym c.check_concept-read.ensures ∙ c.in-Ok.is) in
    (omega arith, rw (add-one c.loop-i.i) (views_more _ _ _ c.loop-i.invariant.1 read))

pub returns : goal.returns
returns c =
    let e = le_antisymm c.loop-i.invariant.0 c.loop-i-test.false ∙ c.views-n.ensures.value in
    sym (catalogue_none _ _ (sym c.bad_layout.ensures ∙ c.if-bad_layout.false) (rw e at c.loop-i.invariant.1))
