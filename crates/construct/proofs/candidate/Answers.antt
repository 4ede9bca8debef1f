-- The class sets are the part of an array that has an entry for each node (NodeLaws).
use mathlib.Core.Path.{sym, ◌∙◌}
use Rattle.construct.proofs.ArraysLaws.{pair_of}
use Rattle.construct.proofs.NodeLaws.{zeros_fit, zeros_length}
use Rattle.construct.proofs.candidate.Goals as goal

pub slice_bounds-sets-end : goal.slice_bounds-sets-end
slice_bounds-sets-end c = let (ok, nodes, size) = c.requires in zeros_fit _ _ (pair_of ok) _ nodes

pub slice_bounds-from_nodes-end : goal.slice_bounds-from_nodes-end
slice_bounds-from_nodes-end c = let (ok, nodes, size) = c.requires in zeros_length _ _ (pair_of ok) _ nodes

pub from_nodes-requires : goal.from_nodes-requires
from_nodes-requires c =
    let (ok, nodes, size) = c.requires in
    (ok, record { reps_length = nodes; sets_length = sym (zeros_length _ _ (pair_of ok) _ nodes) ∙ nodes }, size)

pub returns : goal.returns
returns c = c.from_nodes.ensures
