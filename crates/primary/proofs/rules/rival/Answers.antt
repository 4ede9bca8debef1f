-- The tests of the definition, the dear one last.
use Rattle.std.proofs.Common.{arith}
use Rattle.std.proofs.lemmas.Bool.Decides.{nat_tests}
use Rattle.chase.specs.Axioms.{is_single}
use Rattle.chase.specs.Primary.{rep_of}
use Rattle.primary.proofs.rules.rival.Goals as goal

pub returns-then-together : goal.returns-then-together
unfolding rep_of is_single
returns-then-together c = grind (arith, nat_tests)

pub returns-else-together : goal.returns-else-together
unfolding rep_of is_single
returns-else-together c = grind (arith, nat_tests)
