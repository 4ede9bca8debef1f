-- The three parts, one after the other.
use Rattle.records.specs.SchemaRecord.{schema_of}
use Rattle.candidate.proofs.PartLaws.{sized, limits, nodes_inside, members_room, pairs_room, names_room, all_wrote}
use Rattle.candidate.proofs.facts.declared.Goals as goal

pub class_rows-members-requires : goal.class_rows-members-requires
unfolding schema_of
class_rows-members-requires c = let is = c.signature_of-s.ensures in record { sized = (sized _ _ _ _ _ _ c.requires.ready _ is, (limits _ _ _ _ _ _ c.requires.ready _ is).0); room = members_room _ _ _ _ _ _ c.requires.ready _ is _ c.requires.edges_in_bounds }

pub pair_rows-pairs-requires : goal.pair_rows-pairs-requires
unfolding schema_of
pair_rows-pairs-requires c = let is = c.signature_of-s.ensures in record { sized = (sized _ _ _ _ _ _ c.requires.ready _ is, (limits _ _ _ _ _ _ c.requires.ready _ is).1); room = pairs_room _ _ _ _ _ _ c.requires.ready _ is _ c.requires.edges_in_bounds _ _ c.class_rows-members.ensures }

pub name_facts-requires : goal.name_facts-requires
unfolding schema_of
name_facts-requires c = let is = c.signature_of-s.ensures in record { inside = (c.requires.ready.inside, c.requires.ready.nodes, nodes_inside _ _ _ _ _ _ c.requires.ready _ is, (limits _ _ _ _ _ _ c.requires.ready _ is).2); room = names_room _ _ _ _ _ _ c.requires.ready _ is _ c.requires.edges_in_bounds _ _ c.class_rows-members.ensures _ _ c.pair_rows-pairs.ensures }

pub returns : goal.returns
unfolding schema_of
returns c =
    all_wrote _ _ _ _ _ _ c.requires.ready _ c.signature_of-s.ensures _ c.requires.edges_in_bounds _ _ c.class_rows-members.ensures _ _ c.pair_rows-pairs.ensures
    _ _ c.name_facts.ensures
