-- A word where equations are asked for.
use mathlib.Core.Path.{refl}
use Rattle.asked.specs.declared.words.Kind.TheVariants.{Members, Edges}
use Rattle.asked.proofs.GrownLaws.{kept_or, side_grown}
use Rattle.asked.proofs.words.add_side.Goals as goal

pub returns-in-Equations : goal.returns-in-Equations
returns-in-Equations c = side_grown c.requires.room _ _ c.in-Equations.is c.requires.left_lt_part.1 c.push.ensures

pub returns-in-Members : goal.returns-in-Members
returns-in-Members c = kept_or Members Edges c.requires.room c.in-Members.is refl refl
