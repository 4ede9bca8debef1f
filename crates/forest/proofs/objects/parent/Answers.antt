-- An object of the ground has no maker, and a made one that of its word.
use Rattle.forest.proofs.ReadLaws.{parent_none, parent_other, parent_here}
use Rattle.forest.proofs.objects.parent.Goals as goal

pub returns-then-e-g : goal.returns-then-e-g
returns-then-e-g c = λ edges. parent_none _ _ _ c.requires.0 _ _ c.requires.1 edges c.if-e-g.true

pub returns-then-link-attribute : goal.returns-then-link-attribute
returns-then-link-attribute c = λ edges. parent_other _ _ _ c.requires.0 _ _ c.requires.1 edges c.if-e-g.false c.if-link-attribute.true

pub returns : goal.returns
returns c = λ edges. parent_here _ _ _ c.requires.0 _ _ c.requires.1 edges c.if-e-g.false c.if-link-attribute.false
