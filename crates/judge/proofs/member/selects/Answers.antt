-- The object's bit in the set that evaluation gives.
use mathlib.Core.Path.{◌∙◌}
use native.Mathlib.Omega.{arith}
use Rattle.records.specs.Layout.{view_steps}
use Rattle.records.specs.ConceptRecord.{concept_of}
use Rattle.records.specs.StateRecord.{state_of}
use Rattle.records.proofs.AcceptedLaws.{passes_7, objects_few}
use Rattle.evaluate.proofs.EvaluationLaws.{evaluable, selected_bit}
use Rattle.judge.proofs.member.selects.Goals as goal

pub evaluate-set-requires : goal.evaluate-set-requires
evaluate-set-requires c =
    let ok = c.requires in
    evaluable view_steps ok.view_accepted ok.state_accepted

pub returns : goal.returns
unfolding state_of
returns c =
    let a = c.args in
    let ok = c.requires in
    c.has.ensures
    ∙ selected_bit (state_of a.state.now) (concept_of a.view.now) _ c.evaluate-set.ensures
    (omega (arith, objects_few a.state.now (passes_7 _ _ ok.state_accepted))) _ ok.inside
