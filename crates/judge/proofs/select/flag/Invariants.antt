-- What stands before the present place is flagged and counted.
use Prim.Native.Nat.{◌≤◌}
use Rattle.judge.specs.Select.{flags}
use lib.ListN.{drop, length}
use mathlib.Core.Path.{◌≡◌}
use mathlib.Core.List.{◌++◌}
use Rattle.records.specs.Finite.{count}
use Rattle.index.specs.BitSet.{bit_at}
use Rattle.judge.proofs.select.flag.Given as goal

abbrev pub invariant-loop-i : goal.invariant-loop-i
invariant-loop-i l =
    (l.i ≤ l.n) × (length l.lent ≡ length l.initial.lent) × (l.found ≡ count l.i (bit_at l.set)) × (l.lent ≡ flags (bit_at l.set) l.i ++ drop l.i l.initial.lent)
