-- Document 02, note 1: the links of an attribute, which are its pairs, whose first object a concept selects, counted from both
-- ends. The two counts are equal in every state: links_agree of proofs/LinkLaws.antt, and for any words answers_agree.
-- (is_in is the test of In: is_in_iff of records.)
use Rattle.std.specs.Prelude.{ℕ, ◌<◌, List, [], ◌∷◌, cond, ◌&&◌, Option, Result, Ok, Err}
use Rattle.records.specs.declared.schema.Signature.{Signature}
use Rattle.records.specs.declared.refusal.Refusal.{Refusal}
use Rattle.records.specs.Finite.{count, sum}
use Rattle.records.specs.State.{State}
use Rattle.records.specs.Concept.{Concept}
use Rattle.records.specs.Executable.{is_in}
use Rattle.records.specs.Layout.{max_attributes, query_steps}
use Rattle.records.specs.SchemaRecord.{signature_of}
use Rattle.records.specs.ConceptRecord.{concept_of}
use Rattle.records.specs.StateRecord.{state_of}
use Rattle.records.specs.ConceptRefusal.{AcceptedConcept}
use Rattle.records.specs.StateRefusal.{AcceptedState}
use Rattle.records.specs.Outcome.{schema_refusal, plain_refusal, state_refusal, attribute_refusal, outcome}

-- how many values of attribute P object d has
abbrev pub values : State → ℕ → ℕ → ℕ
values I P d = count I.size λ e. I.pairs P d e

-- By first object: for each selected object, how many values it has, summed.
unfoldable pub links_by_first : State → Concept → ℕ → ℕ
links_by_first I C P = sum I.size λ d. cond (is_in I C d) (values I P d) 0

-- how many selected objects have e as a value of attribute P
abbrev pub firsts : State → Concept → ℕ → ℕ → ℕ
firsts I C P e = count I.size λ d. is_in I C d && I.pairs P d e

-- By second object: for each object, how many selected objects have it as a value, summed.
unfoldable pub links_by_second : State → Concept → ℕ → ℕ
links_by_second I C P = sum I.size λ e. firsts I C P e

abbrev pub links_refusals : List ℕ → List ℕ → List ℕ → ℕ → List (Option Refusal)
links_refusals schema concept state P =
    schema_refusal schema ∷ plain_refusal schema concept ∷ state_refusal schema state ∷ attribute_refusal schema P ∷ []

abbrev pub by_first_answer : List ℕ → List ℕ → List ℕ → ℕ → Result ℕ Refusal
by_first_answer schema concept state P =
    outcome Err (links_refusals schema concept state P) (Ok (links_by_first (state_of state) (concept_of concept) P))

abbrev pub by_second_answer : List ℕ → List ℕ → List ℕ → ℕ → Result ℕ Refusal
by_second_answer schema concept state P =
    outcome Err (links_refusals schema concept state P) (Ok (links_by_second (state_of state) (concept_of concept) P))

-- What contracts of helper functions cite, and nothing above them.

abbrev pub checked : List ℕ → List ℕ → List ℕ → ℕ → Result Signature Refusal
checked schema concept state P = outcome Err (links_refusals schema concept state P) (Ok (signature_of schema))

-- accepted records, and an attribute that a schema can declare
pub record Countable (s : Signature) (concept state : List ℕ) (P : ℕ) : Type 0 where
  pub concept_accepted : AcceptedConcept query_steps s concept
  pub state_accepted : AcceptedState s state
  pub attribute : P < max_attributes
