-- The set holds the objects of the facts passed (Naming); before the row of the kind and after it there are none.
use Rattle.rows.proofs.KindSetLaws.{Naming}
use Rattle.records.specs.Layout.{state_layout, entries}
use Prim.Native.Nat.{◌≤◌}
use Rattle.rows.proofs.sets.kind_set.Given as goal

abbrev pub invariant-loop-i : goal.invariant-loop-i
invariant-loop-i l = (l.from ≤ l.i) × (l.i ≤ entries state_layout l.state) × Naming l.state l.kind l.i l.out
