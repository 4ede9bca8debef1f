-- The test of the definition.
use Rattle.chase.specs.ClassSet.{meets}
use borrow.Author.Rules.{rules}
use Rattle.classes.proofs.sets.meets.Goals as goal

pub returns : goal.returns
unfolding meets
returns c = search rules
