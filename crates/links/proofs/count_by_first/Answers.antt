-- The facts that the pass counts are the links (LinkFacts), by the set that evaluation gives.
use mathlib.Core.Path.{◌∙◌}
use native.Mathlib.Omega.{arith}
use Rattle.records.specs.Layout.{query_steps}
use Rattle.evaluate.proofs.EvaluationLaws.{evaluable}
use Rattle.links.proofs.LinkFacts.{walkable, counted_by_first}
use Rattle.links.proofs.count_by_first.Goals as goal

pub evaluate-set-requires : goal.evaluate-set-requires
evaluate-set-requires c =
    let ok = c.requires in
    evaluable query_steps ok.concept_accepted ok.state_accepted

pub overflow_add-attribute : goal.overflow_add-attribute
overflow_add-attribute c = omega (arith, c.requires.attribute)

pub count_links-requires : goal.count_links-requires
count_links-requires c =
    let ok = c.requires in
    walkable _ _ ok.state_accepted _ (omega (arith, ok.attribute))

pub returns : goal.returns
returns c =
    let ok = c.requires in
    c.count_links.ensures ∙ counted_by_first _ _ ok.state_accepted _ _ _ c.evaluate-set.ensures
