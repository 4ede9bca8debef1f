-- Where the edges are no rivals, or their targets are one object, unifying them changes nothing.
use Rattle.std.proofs.Common.{arith}
use Rattle.std.proofs.lemmas.Bool.Decides.{nat_tests}
use Rattle.chase.specs.Primary.{rep_of, merge}
use Rattle.primary.proofs.FormedLaws.{becomes_self}
use Rattle.primary.proofs.rules.unify.Goals as goal

pub returns-else-reps-e : goal.returns-else-reps-e
unfolding rep_of merge
returns-else-reps-e c = grind (arith, nat_tests, becomes_self)
