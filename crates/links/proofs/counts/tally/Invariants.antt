-- The counts of the facts passed (Tallied); before the row of the kind and after it there are no links.
use Prim.Native.Nat.{◌≤◌}
use Rattle.records.specs.Layout.{state_layout, entries}
use Rattle.links.specs.Counts.{Tallied}
use Rattle.links.proofs.counts.tally.Given as goal

abbrev pub invariant-loop-i : goal.invariant-loop-i
invariant-loop-i l = (l.from ≤ l.i) × (l.i ≤ entries state_layout l.state) × Tallied l.state l.kind l.set l.i l.counts
