-- The words of the facts passed stand at the start, by whichever function says what a call gives.
use Rattle.std.proofs.Common.{◌≡◌, ℕ, length}
use Rattle.encoding.proofs.WriteLaws.{puts}
use Rattle.encoding.proofs.halves.put.Given as goal

abbrev pub invariant-loop-i : goal.invariant-loop-i
invariant-loop-i g l =
    (length l.to ≡ length l.initial.to)
    × ((f : ℕ → ℕ) → ((fact w : ℕ) → goal.F-post g l.word fact w → w ≡ f fact) → l.to ≡ puts f l.facts l.initial.to l.i)
