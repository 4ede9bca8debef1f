-- The ties passed have been merged.
use Rattle.chase.specs.Primary.{equate}
use Rattle.primary.specs.Words.{tie_of}
use Rattle.primary.specs.Formed.{prime}
use Rattle.primary.proofs.FormedLaws.{Passed}
use Rattle.primary.proofs.rules.equate_all.Given as goal

abbrev pub invariant-loop-word : goal.invariant-loop-word
invariant-loop-word l = Passed equate tie_of l.ties (prime l.initial.reps l.initial.sets) l.word-index l.reps l.sets
