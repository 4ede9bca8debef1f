-- The representatives are the part of an array that has an entry for each node.
use mathlib.Core.Path.{sym, ◌∙◌}
use Rattle.construct.proofs.ArraysLaws.{pair_of}
use Rattle.construct.proofs.NodeLaws.{zeros_fit, zeros_length}
use Rattle.decide.proofs.verdict.answer.Goals as goal

pub nodes-n-requires : goal.nodes-n-requires
nodes-n-requires c = pair_of c.requires

pub slice_bounds-reps-end : goal.slice_bounds-reps-end
slice_bounds-reps-end c = zeros_fit _ _ (pair_of c.requires) _ c.nodes-n.ensures

pub slice_bounds-answer_of-end : goal.slice_bounds-answer_of-end
slice_bounds-answer_of-end c = zeros_length _ _ (pair_of c.requires) _ c.nodes-n.ensures

pub answer_of-requires : goal.answer_of-requires
answer_of-requires c =
    let nodes = c.nodes-n.ensures in
    (c.requires, sym (zeros_length _ _ (pair_of c.requires) _ nodes) ∙ nodes)

pub returns : goal.returns
returns c = c.answer_of.ensures
