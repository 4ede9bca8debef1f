-- The index of the facts passed grows by the next left word (Indexed of IndexLaws).
use Prim.Native.Nat.{◌≤◌}
use Rattle.index.proofs.IndexLaws.{Indexed}
use Rattle.index.proofs.left.index.Given as goal

abbrev pub invariant-loop-i : goal.invariant-loop-i
invariant-loop-i l = (l.i ≤ l.n) × Indexed l.words l.seen l.i
