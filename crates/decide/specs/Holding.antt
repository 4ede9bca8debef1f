-- Holds: "held" exactly when no legal finite state of any size has an object in the query and outside the view, otherwise
-- "open". It is what decide answers without the state that shows it.
use Rattle.std.specs.Prelude.{ℕ, Bool, not, List, [], ◌∷◌, ◌↔◌, ◌≡◌, Option, Some, None, Result, Ok, Err}
use Rattle.std.proofs.Math.Bool.{So}
use Rattle.records.specs.declared.refusal.Refusal.{Refusal}
use Rattle.records.specs.Subsumption.{Open, Held}
use Rattle.records.specs.SchemaRecord.{schema_of}
use Rattle.records.specs.ConceptRecord.{concept_of}
use Rattle.records.specs.Outcome.{first_refusal, outcome, schema_refusal, query_refusal, view_refusal}

abbrev pub holds_refusals : List ℕ → List ℕ → List ℕ → List (Option Refusal)
holds_refusals schema query view = schema_refusal schema ∷ query_refusal schema query ∷ view_refusal schema view ∷ []

-- whether the view holds the query, as a truth value
pub record Tells (schema query view : List ℕ) (held : Bool) : Type 0 where
  pub is_held : So held ↔ Held (schema_of schema) (concept_of query) (concept_of view)
  pub is_open : So (not held) ↔ Open (schema_of schema) (concept_of query) (concept_of view)

-- what is answered to any words
pub record Holding (schema query view : List ℕ) (answer : Result Bool Refusal) : Type 0 where
  pub refused : (r : Refusal) → first_refusal (holds_refusals schema query view) ≡ Some r → answer ≡ Err r
  pub decided : first_refusal (holds_refusals schema query view) ≡ None → (held : Bool) × (answer ≡ Ok held) × Tells schema query view held

-- what the checks before an answer come to, which a helper function promises
abbrev pub checked : List ℕ → List ℕ → List ℕ → Result (Unit {0}) Refusal
checked schema query view = outcome Err (holds_refusals schema query view) (Ok tt)
