-- The objects passed are written.
use Prim.Native.Nat.{◌≤◌}
use mathlib.Core.List.{[]}
use Rattle.records.specs.SchemaRecord.{schema_of}
use Rattle.chase.specs.Written.{gather, class_facts}
use Rattle.candidate.specs.Writing.{Wrote}
use Rattle.ground.specs.Objects.{ground_in, forest_in}
use Rattle.candidate.proofs.members.class_row.Given as goal

abbrev pub invariant-loop-d : goal.invariant-loop-d
invariant-loop-d l =
    (l.d ≤ l.total)
    × Wrote l.count
    (gather l.d (class_facts (schema_of l.schema) (ground_in l.sizes.ground l.objects []) (forest_in l.sizes.ground l.sizes.made l.objects) l.class)) l.initial.out l.at l.out
