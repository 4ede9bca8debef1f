-- The objects passed are written.
use Prim.Native.Nat.{◌≤◌}
use Rattle.records.specs.SchemaRecord.{schema_of}
use Rattle.chase.specs.Written.{gather, pair_facts}
use Rattle.candidate.specs.Writing.{Wrote}
use Rattle.ground.specs.Objects.{ground_in, forest_in}
use Rattle.candidate.proofs.pairs.pair_row.Given as goal

abbrev pub invariant-loop-d : goal.invariant-loop-d
invariant-loop-d l =
    (l.d ≤ l.total)
    × Wrote l.count
    (gather l.d (pair_facts (schema_of l.schema) (ground_in l.sizes.ground l.objects l.edges) (forest_in l.sizes.ground l.sizes.made l.objects) l.attribute)) l.initial.out l.at l.out
