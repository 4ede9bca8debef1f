-- A word where members are asked for.
use mathlib.Core.Path.{refl}
use Rattle.asked.specs.declared.words.Kind.TheVariants.{Equations, Edges}
use Rattle.asked.proofs.GrownLaws.{kept_or, member_grown}
use Rattle.asked.proofs.words.add_member.Goals as goal

pub returns-in-Members : goal.returns-in-Members
returns-in-Members c = member_grown c.requires.room _ _ c.in-Members.is c.requires.class_lt_part.1 c.push.ensures

pub returns-in-Equations : goal.returns-in-Equations
returns-in-Equations c = kept_or Equations Edges c.requires.room c.in-Equations.is refl refl
