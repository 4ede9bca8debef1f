-- The relation holds what the facts passed carry of the spare one (Stepped), for the step whose facts and ends these are
-- (Facing); before the row of the kind and after it there is nothing.
use Rattle.paths.proofs.StepLaws.{Facing}
use Rattle.paths.specs.declared.steps.Step.{Step}
use Rattle.paths.specs.Relation.{Stepped}
use Rattle.records.specs.Layout.{state_layout, entries}
use mathlib.Core.Path.{◌≡◌}
use lib.ListN.{length}
use Prim.Native.Nat.{◌≤◌}
use Rattle.paths.proofs.relation.advance.Given as goal

abbrev pub invariant-loop-i : goal.invariant-loop-i
invariant-loop-i l = (l.from ≤ l.i) × (l.i ≤ entries state_layout l.state) × (length l.rows ≡ length l.initial.rows) × ((x : Step) → Facing l.state l.from l.to l.ends x → Stepped l.state x l.landings l.at l.bases l.initial.rows l.i l.rows)
