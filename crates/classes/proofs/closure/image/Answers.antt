-- The values' classes, closed.
use mathlib.Core.Path.{subst, sym}
use Rattle.chase.specs.Axioms.{image}
use Rattle.classes.specs.Sets.{DeclaredSet}
use Rattle.classes.proofs.SchemaLaws.{values_declared}
use Rattle.classes.proofs.closure.image.Goals as goal

pub closure-requires : goal.closure-requires
closure-requires c =
    (c.requires, subst (DeclaredSet _) (sym c.values.ensures) (values_declared _ c.requires _ _))

pub returns : goal.returns
unfolding image
returns c = cc
