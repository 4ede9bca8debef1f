-- The edges passed have been typed.
use Rattle.primary.proofs.FormedLaws.{words_none, words_more, words_all}
use Rattle.primary.proofs.rules.type_all.Goals as goal

pub loop-word-init : goal.loop-word-init
loop-word-init c = words_none c.requires.2

pub loop-word-preserved : goal.loop-word-preserved
loop-word-preserved c = words_more c.loop-word-test.true c.loop-word.invariant (rw c.from.ensures at c.type_edge.ensures)

pub returns : goal.returns
returns c = words_all c.loop-word-test.false c.loop-word.invariant
