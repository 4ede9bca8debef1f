-- The set holds what the rows passed share (Shared).
use Rattle.paths.specs.Relation.{Shared}
use Prim.Native.Nat.{◌≤◌}
use Rattle.paths.proofs.meeting.shared.Given as goal

abbrev pub invariant-loop-t : goal.invariant-loop-t
invariant-loop-t l = (l.t ≤ l.n) × Shared l.t l.bases l.rows l.out
