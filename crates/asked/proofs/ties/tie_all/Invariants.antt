-- The words passed are ties.
use mathlib.Core.Path.{◌≡◌}
use Rattle.records.proofs.General.Filling.{changed}
use Rattle.asked.specs.Marked.{tie_word}
use Rattle.asked.proofs.ties.tie_all.Given as goal

abbrev pub invariant-loop-word : goal.invariant-loop-word
invariant-loop-word l = l.words ≡ changed (tie_word l.nodes) l.initial.words l.word-index
