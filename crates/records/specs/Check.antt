-- Document 02, note 2: a concept checked by itself. The answer is what it names, or the first refusal of the schema's and its own.
use Rattle.std.specs.Prelude.{ℕ, List, [], ◌∷◌, ◌≡◌, Option, Some, None, Result, Ok, Err}
use Rattle.records.specs.declared.named.Named.{Named}
use Rattle.records.specs.declared.refusal.Refusal.{Refusal}
use Rattle.records.specs.Layout.{query_steps, view_steps, query_marks, no_marks}
use Rattle.records.specs.SchemaRecord.{signature_of}
use Rattle.records.specs.Refusal.{refusal_in}
use Rattle.records.specs.ConceptRefusal.{concept_answer}
use Rattle.records.specs.Marks.{allowing}
use Rattle.records.specs.Named.{named_in, NamedExactly}
use Rattle.records.specs.Outcome.{schema_refusal, first_refusal, outcome}

-- of a concept that may have so many steps and these marks
abbrev pub check_refusals : ℕ → ℕ → List ℕ → List ℕ → List (Option Refusal)
check_refusals limit marks schema w =
    schema_refusal schema ∷ refusal_in (concept_answer limit (allowing marks (signature_of schema)) w) ∷ []

abbrev pub concept_check : ℕ → ℕ → List ℕ → List ℕ → Result Named Refusal
concept_check limit marks schema w = outcome Err (check_refusals limit marks schema w) (Ok (named_in w))

abbrev pub plain_check : List ℕ → List ℕ → Result Named Refusal
plain_check schema concept = concept_check query_steps no_marks schema concept

abbrev pub query_check : List ℕ → List ℕ → Result Named Refusal
query_check schema query = concept_check query_steps query_marks schema query

abbrev pub view_check : List ℕ → List ℕ → Result Named Refusal
view_check schema view = concept_check view_steps no_marks schema view

-- What is answered to any words, in the terms of the definitions (check_exact of proofs/NamedLaws).
pub record CheckExact (limit marks : ℕ) (schema w : List ℕ) (answer : Result Named Refusal) : Type 0 where
  pub refused : (r : Refusal) → first_refusal (check_refusals limit marks schema w) ≡ Some r → answer ≡ Err r
  pub answered : first_refusal (check_refusals limit marks schema w) ≡ None → (r : Named) × (answer ≡ Ok r) × NamedExactly w r
