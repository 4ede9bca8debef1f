-- The facts of the three kinds are what the query asks (ClosedLaws).
use Rattle.construct.proofs.ClosedLaws.{asks, closed_by, marks_by}
use Rattle.construct.proofs.closed.Goals as goal

pub close-requires : goal.close-requires
close-requires c =
    let (pair, nodes) = c.requires in
    rw (c.as_slice.ensures, c.as_slice-2.ensures, c.as_slice-3.ensures)
    (asks _ _ pair _ _ _ c.asked-members.ensures c.of_equations-tied.ensures c.asked-edges.ensures, nodes.reps_length, nodes.sets_length)

pub returns : goal.returns
returns c =
    let pair = c.requires.0 in
    let members = c.asked-members.ensures in
    let tied = c.of_equations-tied.ensures in
    let edges = c.asked-edges.ensures in
    record {
      closed = closed_by _ _ pair _ _ _ members tied edges _ _ c.close.ensures;
      room = (edges.count, edges.size);
      marks = marks_by _ _ pair _ _ _ members tied edges _ c.used.ensures;
    }
