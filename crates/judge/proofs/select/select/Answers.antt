-- Each return is by the first refusal that applies, or by the set that evaluation gives, which is flagged (SelectLaws).
use mathlib.Core.List.{[]}
use mathlib.Core.Path.{sym, ◌∙◌}
use native.Mathlib.Omega.{arith}
use Rattle.records.specs.Layout.{query_steps}
use Rattle.records.specs.ConceptRecord.{concept_of}
use Rattle.records.specs.StateRecord.{state_of}
use Rattle.records.proofs.AcceptedLaws.{passes_7, objects_few}
use Rattle.records.proofs.OutcomeLaws.{refused_at}
use Rattle.evaluate.proofs.EvaluationLaws.{evaluable}
use Rattle.judge.specs.Select.{refused_with}
use Rattle.judge.proofs.CheckLaws.{plain_accepted}
use Rattle.judge.proofs.SelectLaws.{selection_is, concept_refused, state_refused, lent_refused, selection_answered}
use Rattle.judge.proofs.select.select.Goals as goal

pub returns-in_default : goal.returns-in_default
returns-in_default c =
    rw (sym c.check_schema-declared.ensures ∙ c.unwrap_err.ensures) (refused_at (refused_with c.args.lent.now) _ [] _ _ tt)

pub returns-in_default-read : goal.returns-in_default-read
returns-in_default-read c =
    let declared = sym c.check_schema-declared.ensures ∙ c.in-Ok.is in
    concept_refused _ _ _ _ declared (sym c.check_concept-read.ensures ∙ c.unwrap_err-in_default-read.ensures)

pub returns-in_default-judged : goal.returns-in_default-judged
returns-in_default-judged c =
    let declared = sym c.check_schema-declared.ensures ∙ c.in-Ok.is in
    let read = sym c.check_concept-read.ensures ∙ c.in-Ok-read.is in
    state_refused _ _ _ _ declared read (sym c.check_state-judged.ensures ∙ c.unwrap_err-in_default-judged.ensures)

pub returns-then-lent-n : goal.returns-then-lent-n
returns-then-lent-n c =
    let declared = sym c.check_schema-declared.ensures ∙ c.in-Ok.is in
    let read = sym c.check_concept-read.ensures ∙ c.in-Ok-read.is in
    let judged = sym c.check_state-judged.ensures ∙ c.in-Ok-judged.is in
    lent_refused _ _ _ _ declared read judged (omega (arith, c.objects-n.ensures.value, c.if-lent-n.true))

pub evaluate-set-requires : goal.evaluate-set-requires
evaluate-set-requires c =
    let declared = sym c.check_schema-declared.ensures ∙ c.in-Ok.is in
    let read = sym c.check_concept-read.ensures ∙ c.in-Ok-read.is in
    evaluable query_steps (plain_accepted query_steps _ _ declared read) (sym c.check_state-judged.ensures ∙ c.in-Ok-judged.is)

pub returns : goal.returns
unfolding state_of
returns c =
    let declared = sym c.check_schema-declared.ensures ∙ c.in-Ok.is in
    let read = sym c.check_concept-read.ensures ∙ c.in-Ok-read.is in
    let judged = sym c.check_state-judged.ensures ∙ c.in-Ok-judged.is in
    let few = objects_few c.args.state.now (passes_7 _ c.args.state.now judged) in
    rw (c.flag.ensures.count, c.flag.ensures.words, c.objects-n.ensures.value)
    (selection_is (state_of c.args.state.now) (concept_of c.args.concept.now) c.args.lent.now c.evaluate-set.result c.evaluate-set.ensures (omega (arith, few))
    ∙ selection_answered _ _ _ _ declared read judged (omega (arith, c.objects-n.ensures.value, c.if-lent-n.false)))
