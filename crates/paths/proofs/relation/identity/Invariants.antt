-- The objects passed lead to themselves, in rows that were cleared (Marking).
use Rattle.paths.proofs.RelationLaws.{Marking}
use Prim.Native.Nat.{◌≤◌}
use Rattle.paths.proofs.relation.identity.Given as goal

abbrev pub invariant-loop-t : goal.invariant-loop-t
invariant-loop-t l = (l.t ≤ l.n) × Marking l.n l.bases l.t l.initial.rows l.rows
