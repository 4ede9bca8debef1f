-- The words passed are ties.
use native.Mathlib.Omega.{arith}
use mathlib.Core.Path.{◌∙◌}
use Rattle.records.proofs.General.Filling.{changed_more, changed_all}
use Rattle.asked.specs.Marked.{tie_word}
use Rattle.asked.proofs.ties.tie_all.Goals as goal

pub loop-word-preserved : goal.loop-word-preserved
loop-word-preserved c =
    rw c.tie.ensures (changed_more (tie_word c.args.nodes.now) _ _ _ (omega arith) c.loop-word.invariant)

pub returns : goal.returns
returns c = c.loop-word.invariant ∙ changed_all (tie_word c.args.nodes.now) c.args.words.now _ c.loop-word-test.false
