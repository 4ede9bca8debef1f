-- The nodes of the marks, then the ties, in the part of the array that is counted (TiedLaws).
use Rattle.asked.proofs.TiedLaws.{start_small, lefts_in, tied_by}
use Rattle.asked.proofs.ties.of_equations.Goals as goal

pub anchors-nodes-requires : goal.anchors-nodes-requires
anchors-nodes-requires c =
    let p = c.requires in
    (start_small _ _ p.accepted_schema p.accepted_concept (c.word.ensures.value), rw c.as_slice.ensures (lefts_in _ _ p.accepted_schema p.accepted_concept _ p.asked))

pub returns : goal.returns
returns c =
    let p = c.requires in
    let z = c.anchors-nodes.ensures in
    rw c.tie_all.ensures
    (tied_by _ _ p.accepted_schema p.accepted_concept _ p.asked _ _ (c.word.ensures.value) (rw (← c.as_slice.ensures) z.anchored) z.small)
