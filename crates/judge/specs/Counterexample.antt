-- Counterexample: the answer is the lowest object that is in the query and outside the view, or none. An illegal state is no
-- counterexample. The state makes the choice for the query's marks (document 02, note 6).
use Rattle.std.specs.Prelude.{ℕ, List, [], ◌∷◌, Bool, cond, not, ◌&&◌, eqb, ltb, Option, Some, None, Result, Ok, Err}
use Rattle.records.specs.declared.schema.Signature.{Signature}
use Rattle.records.specs.declared.refusal.Refusal.{Refusal}
use Rattle.records.specs.Finite.{least}
use Rattle.records.specs.Layout.{query_steps, view_steps}
use Rattle.records.specs.SchemaRefusal.{AcceptedSchema}
use Rattle.records.specs.ConceptRefusal.{AcceptedConcept}
use Rattle.records.specs.StateRefusal.{AcceptedState}
use Rattle.index.specs.BitSet.{bit_at}
use Rattle.records.specs.State.{State}
use Rattle.records.specs.Schema.{Schema}
use Rattle.records.specs.Concept.{Concept}
use Rattle.records.specs.Executable.{is_in, first_broken}
use Rattle.records.specs.SchemaRecord.{schema_of}
use Rattle.records.specs.ConceptRecord.{concept_of}
use Rattle.records.specs.StateRecord.{state_of}
use Rattle.records.specs.Outcome.{schema_refusal, query_refusal, view_refusal, choice_refusal, outcome}

-- object d is in the query and outside the view
abbrev pub separates : State → Concept → Concept → ℕ → Bool
separates I query view d = is_in I query d && not (is_in I view d)

-- the lowest such object, or N where there is none
abbrev pub lowest : State → Concept → Concept → ℕ
lowest I query view = least I.size (separates I query view)

unfoldable pub finding : Schema → State → Concept → Concept → Option ℕ
finding S I query view =
    cond (eqb (first_broken S I) S.axioms && ltb (lowest I query view) I.size) (Some (lowest I query view)) None

abbrev pub counterexample_refusals : List ℕ → List ℕ → List ℕ → List ℕ → List (Option Refusal)
counterexample_refusals schema query view state =
    schema_refusal schema ∷ query_refusal schema query ∷ view_refusal schema view ∷ choice_refusal schema query state ∷ []

abbrev pub counterexample_answer : List ℕ → List ℕ → List ℕ → List ℕ → Result (Option ℕ) Refusal
counterexample_answer schema query view state =
    outcome Err (counterexample_refusals schema query view state)
    (Ok (finding (schema_of schema) (state_of state) (concept_of query) (concept_of view)))

-- What contracts of helper functions cite, and nothing above them.

-- number d is in the first set and not in the second
abbrev pub apart : List ℕ → List ℕ → ℕ → Bool
apart inside outside d = bit_at inside d && not (bit_at outside d)

-- accepted records, the concepts and the state under one signature; the entry's is the schema's with the marks that the query uses
pub record Accepted (s : Signature) (schema query view state : List ℕ) : Type 0 where
  pub schema_accepted : AcceptedSchema schema
  pub query_accepted : AcceptedConcept query_steps s query
  pub view_accepted : AcceptedConcept view_steps s view
  pub state_accepted : AcceptedState s state
