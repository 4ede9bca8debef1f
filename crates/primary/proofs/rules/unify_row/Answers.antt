-- The edge has been unified with those passed.
use Rattle.primary.proofs.FormedLaws.{words_none, words_more, words_all}
use Rattle.primary.proofs.rules.unify_row.Goals as goal

pub loop-word-init : goal.loop-word-init
loop-word-init c = words_none c.requires.1

pub loop-word-preserved : goal.loop-word-preserved
loop-word-preserved c = words_more c.loop-word-test.true c.loop-word.invariant (rw c.from.ensures at c.unify.ensures)

pub returns : goal.returns
returns c = words_all c.loop-word-test.false c.loop-word.invariant
