-- The edges passed have been typed.
use Rattle.records.specs.SchemaRecord.{schema_of}
use Rattle.primary.specs.Words.{edge_of, type_edge}
use Rattle.primary.specs.Formed.{prime}
use Rattle.primary.proofs.FormedLaws.{Passed}
use Rattle.primary.proofs.rules.type_all.Given as goal

abbrev pub invariant-loop-word : goal.invariant-loop-word
invariant-loop-word l = Passed (type_edge (schema_of l.schema)) edge_of l.edges (prime l.reps l.initial.sets) l.word-index l.reps l.sets
