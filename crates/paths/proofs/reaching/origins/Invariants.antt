-- The set holds the origins of the facts passed (Origins), for the step whose facts and ends these are (Facing); before the row
-- of the kind and after it there are none.
use Rattle.paths.proofs.StepLaws.{Facing}
use Rattle.paths.specs.declared.steps.Step.{Step}
use Rattle.rows.specs.Selection.{set_words}
use Rattle.paths.specs.Steps.{Origins}
use Rattle.records.specs.Layout.{state_layout, entries}
use mathlib.Core.Path.{◌≡◌}
use lib.ListN.{length}
use Prim.Native.Nat.{◌≤◌}
use Rattle.paths.proofs.reaching.origins.Given as goal

abbrev pub invariant-loop-i : goal.invariant-loop-i
invariant-loop-i l = (l.from ≤ l.i) × (l.i ≤ entries state_layout l.state) × (length l.out ≡ set_words) × ((x : Step) → Facing l.state l.from l.to l.ends x → Origins l.state x l.landings l.at l.into l.i l.out)
