-- Each edge passed has been unified with all.
use Rattle.std.proofs.Common.{map}
use Rattle.records.specs.SchemaRecord.{schema_of}
use Rattle.primary.specs.Words.{edge_of, unify_row}
use Rattle.primary.specs.Formed.{prime}
use Rattle.primary.proofs.FormedLaws.{Passed}
use Rattle.primary.proofs.rules.unify_all.Given as goal

abbrev pub invariant-loop-word : goal.invariant-loop-word
invariant-loop-word l = Passed (unify_row (schema_of l.schema) (map edge_of l.edges)) edge_of l.edges (prime l.initial.reps l.initial.sets) l.word-index l.reps l.sets
