-- The words before the present one are read (Filled of DecodeLaws).
use Prim.Native.Nat.{◌≤◌}
use Rattle.files.proofs.DecodeLaws.{Filled}
use Rattle.files.proofs.decode.Given as goal

abbrev pub invariant-loop-i : goal.invariant-loop-i
invariant-loop-i l = (l.i ≤ l.n) × Filled l.bytes l.initial.words l.i l.words
