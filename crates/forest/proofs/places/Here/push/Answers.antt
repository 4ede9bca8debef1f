-- The list as it was, or with one object more.
use mathlib.Core.Path.{refl, ap}
use Rattle.forest.specs.Kept.{number}
use Rattle.forest.proofs.PlaceLaws.{pushed_none, pushed_one}
use Rattle.forest.proofs.places.Here.push.Goals as goal

pub returns-in-Some : goal.returns-in-Some
returns-in-Some c = pushed_one _ _ c.requires.0 _ (ap number c.in-Some.is) c.requires.1 c.requires.3 _ refl refl refl

pub returns-in_default : goal.returns-in_default
returns-in_default c = pushed_none _ _ c.requires.0 (ap number c.in_default.is)
