-- A word where edges are asked for.
use mathlib.Core.Path.{refl}
use Rattle.asked.specs.declared.words.Kind.TheVariants.{Members, Equations}
use Rattle.asked.proofs.GrownLaws.{kept_or, edge_grown}
use Rattle.asked.proofs.words.add_pair.Goals as goal

pub returns-in-Edges : goal.returns-in-Edges
returns-in-Edges c = edge_grown c.requires.room _ _ _ c.in-Edges.is c.requires.attribute_lt_part.1 c.requires.attribute_lt_part.2 c.push.ensures

pub returns-in-Members : goal.returns-in-Members
returns-in-Members c = kept_or Members Equations c.requires.room c.in-Members.is refl refl
