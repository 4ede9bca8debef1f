-- The lower representative goes to the higher.
use Rattle.std.proofs.Common.{arith}
use Rattle.std.proofs.lemmas.Bool.Decides.{nat_tests}
use Rattle.chase.specs.Primary.{rep_of, merge}
use Rattle.primary.proofs.FormedLaws.{becomes_self}
use Rattle.primary.proofs.prime.merge.Goals as goal

pub returns-then-a-b : goal.returns-then-a-b
unfolding rep_of merge
returns-then-a-b c = grind (arith, nat_tests)

pub returns-else-a-b : goal.returns-else-a-b
unfolding rep_of merge
returns-else-a-b c = grind (arith, nat_tests, becomes_self)
