-- The counts are those of each second object (LinkFacts), by the set that evaluation gives.
use mathlib.Core.Path.{◌∙◌}
use native.Mathlib.Omega.{arith}
use Rattle.records.specs.Layout.{query_steps}
use Rattle.records.proofs.AcceptedLaws.{passes_7, objects_few}
use Rattle.evaluate.proofs.EvaluationLaws.{evaluable}
use Rattle.links.proofs.LinkFacts.{walkable, counted_by_second}
use Rattle.links.proofs.count_by_second.Goals as goal

pub evaluate-set-requires : goal.evaluate-set-requires
evaluate-set-requires c =
    let ok = c.requires in
    evaluable query_steps ok.concept_accepted ok.state_accepted

pub overflow_add-attribute : goal.overflow_add-attribute
overflow_add-attribute c = omega (arith, c.requires.attribute)

pub tally-counts-requires : goal.tally-counts-requires
tally-counts-requires c =
    let ok = c.requires in
    walkable _ _ ok.state_accepted _ (omega (arith, ok.attribute))

pub total-requires : goal.total-requires
total-requires c =
    let ok = c.requires in
    omega (arith, c.objects.ensures.value, objects_few _ (passes_7 _ _ ok.state_accepted))

pub returns : goal.returns
returns c =
    let ok = c.requires in
    rw c.objects.ensures.value at c.total.ensures
    ∙ counted_by_second _ _ ok.state_accepted _ _ _ c.evaluate-set.ensures _ c.tally-counts.ensures
