-- The objects passed are written where the query has the pair.
use Prim.Native.Nat.{◌≤◌}
use mathlib.Core.List.{[]}
use Rattle.chase.specs.Written.{gather}
use Rattle.candidate.specs.Facts.{link_fact}
use Rattle.candidate.specs.Writing.{Wrote}
use Rattle.ground.specs.Objects.{ground_in}
use Rattle.candidate.proofs.pairs.link_facts.Given as goal

abbrev pub invariant-loop-e : goal.invariant-loop-e
invariant-loop-e l =
    (l.e ≤ l.g) × Wrote l.count (gather l.e (link_fact (ground_in l.g [] l.edges) l.attribute l.d)) l.initial.out l.at l.out
