-- One loop after the other.
use mathlib.Core.List.{map}
use lib.ListN.{length}
use Rattle.records.specs.SchemaRecord.{schema_of}
use Rattle.records.specs.Helpers.Loops.{each, upto}
use Rattle.chase.specs.Primary.{assert, lift}
use Rattle.primary.specs.Words.{member_of, edge_of, type_edge, unify_row}
use Rattle.primary.specs.Pass.{pass_on}
use Rattle.primary.proofs.FormedLaws.{turns_all, becomes_then}
use Rattle.primary.proofs.pass.pass.Goals as goal

pub returns : goal.returns
unfolding pass_on
returns c =
    let a = c.args in
    let S = schema_of a.schema.now in
    let es = map edge_of a.edges.now in
    let equated = c.equate_all.ensures in
    becomes_then _ _ (each (unify_row S es) es) _ _ _ _
    (becomes_then _ _ (each (type_edge S) es) _ _ _ _
    (becomes_then _ _ (upto (lift S) (length a.reps.now)) _ _ _ _
    (becomes_then _ _ (each assert (map member_of a.members.now)) _ _ _ _ equated c.assert_all.ensures)
    (turns_all (lift S) _ _ _ _ _ _ equated.size c.lift_all.ensures))
    c.type_all.ensures)
    c.unify_all.ensures
