-- What is still to be found is what was asked; with each token passed at most one item more is wanted.
use Prim.Native.Nat.{suc, ◌+◌, ◌≤◌}
use mathlib.Core.Path.{◌≡◌}
use Rattle.records.specs.Helpers.Reading.{start_of}
use Rattle.reading.proofs.start_of.Given as goal

abbrev pub invariant-loop-at : goal.invariant-loop-at
invariant-loop-at l = (start_of l.words l.at l.wanted ≡ start_of l.words l.end 1) × (l.at ≤ l.end) × (l.wanted + l.at ≤ suc l.end)

abbrev pub decreases-loop-at : goal.decreases-loop-at
decreases-loop-at l = l.at
