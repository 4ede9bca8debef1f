-- The memberships passed have been added.
use Rattle.chase.specs.Primary.{assert}
use Rattle.primary.specs.Words.{member_of}
use Rattle.primary.specs.Formed.{prime}
use Rattle.primary.proofs.FormedLaws.{Passed}
use Rattle.primary.proofs.rules.assert_all.Given as goal

abbrev pub invariant-loop-word : goal.invariant-loop-word
invariant-loop-word l = Passed assert member_of l.members (prime l.reps l.initial.sets) l.word-index l.reps l.sets
