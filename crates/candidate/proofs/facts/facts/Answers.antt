-- What is declared, then the marks.
use mathlib.Core.Path.{refl}
use Rattle.records.specs.SchemaRecord.{schema_of}
use Rattle.candidate.proofs.PartLaws.{marks_room}
use Rattle.candidate.proofs.WriteLaws.{wrote_then}
use Rattle.candidate.proofs.facts.facts.Goals as goal

pub mark_facts-requires : goal.mark_facts-requires
mark_facts-requires c = record { inside = (c.requires.ready.0.inside, c.requires.ready.0.nodes, c.requires.ready.1); room = marks_room _ _ _ _ _ _ c.requires.ready.0 _ refl _ c.requires.edges_in_bounds _ _ c.declared-n.ensures c.allow-s.result c.args.shape.marks.nodes }

pub returns : goal.returns
unfolding schema_of
returns c =
    wrote_then _ _ _ _ _ _ _ _ c.declared-n.ensures
    (rw (c.allow-s.ensures, c.signature_of.ensures) at c.mark_facts.ensures)
