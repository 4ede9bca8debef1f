-- The attributes passed are written.
use Prim.Native.Nat.{◌≤◌}
use Rattle.chase.specs.Written.{gather}
use Rattle.candidate.specs.Facts.{pairs_in}
use Rattle.candidate.specs.Writing.{Wrote}
use Rattle.candidate.proofs.pairs.pair_rows.Given as goal

abbrev pub invariant-loop-attribute : goal.invariant-loop-attribute
invariant-loop-attribute l =
    (l.attribute ≤ l.attributes) × Wrote l.count (gather l.attribute (pairs_in l.schema l.edges l.objects l.sizes)) l.initial.out l.at l.out
