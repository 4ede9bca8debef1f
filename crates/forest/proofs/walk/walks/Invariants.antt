-- The view has been walked from the objects passed.
use Prim.Native.Nat.{◌≤◌}
use Rattle.records.specs.SchemaRecord.{schema_of}
use Rattle.records.specs.ConceptRecord.{concept_of}
use Rattle.ground.specs.Objects.{ground_in}
use Rattle.forest.specs.Kept.{Grows}
use Rattle.forest.proofs.RoundLaws.{rounds}
use Rattle.forest.proofs.walk.walks.Given as goal

abbrev pub invariant-loop-start : goal.invariant-loop-start
invariant-loop-start l =
    (l.start ≤ l.g) × Grows l.g l.g l.n l.initial.objects l.objects (rounds (schema_of l.schema) (ground_in l.g l.initial.objects l.edges) (concept_of l.view) l.start)
