-- The edges passed are renumbered.
use Rattle.std.proofs.Common.{◌≡◌}
use Rattle.records.proofs.General.Filling.{changed}
use Rattle.ground.specs.Numbers.{renumber_word}
use Rattle.ground.proofs.number.renumber.Given as goal

abbrev pub invariant-loop-edge : goal.invariant-loop-edge
invariant-loop-edge l = l.edges ≡ changed (renumber_word l.reps) l.initial.edges l.edge-index
