-- Legal: the answer is the first broken axiom, by its place in the record, counted from 0; none is broken in a legal state.
use Rattle.std.specs.Prelude.{ℕ, List, [], ◌∷◌, Option, Result, Ok, Err}
use Rattle.records.specs.declared.refusal.Refusal.{Refusal}
use Rattle.records.specs.Executable.{broken}
use Rattle.records.specs.SchemaRecord.{schema_of}
use Rattle.records.specs.StateRecord.{state_of}
use Rattle.records.specs.Outcome.{schema_refusal, state_refusal, outcome}

abbrev pub legal_refusals : List ℕ → List ℕ → List (Option Refusal)
legal_refusals schema state = schema_refusal schema ∷ state_refusal schema state ∷ []

abbrev pub legal_answer : List ℕ → List ℕ → Result (Option ℕ) Refusal
legal_answer schema state = outcome Err (legal_refusals schema state) (Ok (broken (schema_of schema) (state_of state)))
