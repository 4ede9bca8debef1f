-- An illegal state answers none; of a legal one the search over the two sets is that over the two concepts (CounterexampleLaws).
use mathlib.Core.Path.{sym, ◌∙◌}
use native.Mathlib.Omega.{arith}
use Rattle.std.proofs.lemmas.Grind.{common_steps}
use Rattle.records.specs.Layout.{query_steps, view_steps}
use Rattle.records.specs.SchemaRecord.{schema_of}
use Rattle.records.specs.ConceptRecord.{concept_of}
use Rattle.records.specs.StateRecord.{state_of}
use Rattle.records.proofs.AcceptedLaws.{passes_7, objects_few}
use Rattle.evaluate.proofs.EvaluationLaws.{evaluable}
use Rattle.judge.proofs.CounterexampleLaws.{find_illegal, find_legal}
use Rattle.judge.proofs.counterexample.find.Goals as goal

pub evaluate-inside-requires : goal.evaluate-inside-requires
evaluate-inside-requires c = evaluable query_steps c.requires.query_accepted c.requires.state_accepted

pub evaluate-outside-requires : goal.evaluate-outside-requires
evaluate-outside-requires c = evaluable view_steps c.requires.view_accepted c.requires.state_accepted

pub returns-then-is_some : goal.returns-then-is_some
returns-then-is_some c =
    let a = c.args in
    find_illegal (schema_of a.schema.now) (state_of a.state.now) (concept_of a.query.now) (concept_of a.view.now)
    (rw c.first_broken.ensures at (sym c.is_some.ensures ∙ c.if-is_some.true))

pub returns : goal.returns
unfolding state_of
returns c =
    let a = c.args in
    let few = objects_few a.state.now (passes_7 _ _ c.requires.state_accepted) in
    let found =
    rw c.objects.ensures.value at c.lowest.ensures
    ∙ find_legal (schema_of a.schema.now) (state_of a.state.now) (concept_of a.query.now) (concept_of a.view.now) _ _
    c.evaluate-inside.ensures c.evaluate-outside.ensures (omega (arith, few))
    (rw c.first_broken.ensures at (sym c.is_some.ensures ∙ c.if-is_some.false)) in
    grind (arith, common_steps)
