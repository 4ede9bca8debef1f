-- The edge has been unified with those passed.
use Rattle.records.specs.SchemaRecord.{schema_of}
use Rattle.chase.specs.Primary.{unify}
use Rattle.primary.specs.Words.{edge_of}
use Rattle.primary.specs.Formed.{prime}
use Rattle.primary.proofs.FormedLaws.{Passed}
use Rattle.primary.proofs.rules.unify_row.Given as goal

abbrev pub invariant-loop-word : goal.invariant-loop-word
invariant-loop-word l = Passed (unify (schema_of l.schema) (edge_of l.e)) edge_of l.edges (prime l.initial.reps l.initial.sets) l.word-index l.reps l.sets
