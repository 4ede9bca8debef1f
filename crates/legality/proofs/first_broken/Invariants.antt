-- Each loop has passed tests that did not apply (Passed of SearchLaws): the search, broken axioms; the loops inside it, which
-- walk a row (Walked), objects and facts that break the axiom at hand. Facts before the row that the axiom asks about cannot
-- break it, nor can those after it.
use Rattle.records.specs.SchemaRecord.{schema_of}
use Rattle.records.specs.StateRecord.{state_of}
use Rattle.legality.specs.Breaks.{object_breaks, pair_breaks}
use Rattle.legality.proofs.SearchLaws.{broken_at, Passed, Walked}
use Rattle.legality.proofs.first_broken.Given as goal

abbrev pub invariant-loop-d : goal.invariant-loop-d
invariant-loop-d l = Walked (object_breaks l.seen l.a) l.initial.d-iterator l.d-iterator l.found

abbrev pub invariant-loop-f : goal.invariant-loop-f
invariant-loop-f l = Walked (pair_breaks l.state l.seen l.a) l.initial.f-iterator l.f-iterator l.found

abbrev pub invariant-search : goal.invariant-search
invariant-search l = Passed (broken_at (schema_of l.schema) (state_of l.state)) l.i l.found
