-- The scan keeps the faults, the order and the names of the facts passed (Kept of StateScanLaws).
use Prim.Native.Nat.{◌≤◌}
use Rattle.check_state.proofs.StateScanLaws.{Kept}
use Rattle.check_state.proofs.check_state.Given as goal

abbrev pub invariant-loop-i : goal.invariant-loop-i
invariant-loop-i l = (l.i ≤ l.n) × Kept l.s l.words l.i l.ascending l.counts l.named
