-- The loop keeps the scan of the tokens passed (scan_after of ConceptScanLaws), none of them faulty.
use Prim.Native.Nat.{◌≤◌}
use mathlib.Core.Bool.{false}
use mathlib.Core.Path.{◌≡◌}
use Rattle.records.specs.Finite.{any}
use Rattle.records.specs.ConceptRefusal.{faulty_token}
use Rattle.check_concept.proofs.ConceptScanLaws.{scan_after}
use Rattle.check_concept.proofs.check_tokens.Given as goal

abbrev pub invariant-loop-i : goal.invariant-loop-i
invariant-loop-i l = (l.i ≤ l.n) × (any l.i (faulty_token l.s l.words) ≡ false) × (l.scan ≡ scan_after l.words l.i)
