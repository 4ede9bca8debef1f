-- Document 01, "Turned back": records are checked in the order schema, query (or concept), view, state, attribute number, lent
-- words. A call is refused by the first refusal that applies, and otherwise answered.
use Rattle.std.specs.Prelude.{ℕ, List, [], ◌∷◌, Bool, cond, ltb, leb, length, Option, Some, None}
use Rattle.records.specs.declared.schema.Signature.{Signature}
use Rattle.records.specs.declared.refusal.Refusal.{Refusal}
use Rattle.records.specs.declared.refusal.Refusal.TheVariants as refusal
use Rattle.records.specs.Layout.{query_steps, view_steps, query_marks}
use Rattle.records.specs.SchemaRecord.{signature_of}
use Rattle.records.specs.Refusal.{refusal_in}
use Rattle.records.specs.SchemaRefusal.{schema_answer}
use Rattle.records.specs.ConceptRefusal.{concept_answer}
use Rattle.records.specs.Marks.{allowing, used_marks}
use Rattle.records.specs.StateRefusal.{state_answer}

-- 11. The lent words (words of the caller's that an answer is written to) are fewer than it needs.
unfoldable pub refusal_11 : ℕ → List ℕ → Bool
refusal_11 needed lent = ltb (length lent) needed

-- 12. The attribute whose links are counted is not declared. (Document 02, note 1.)
unfoldable pub refusal_12 : Signature → ℕ → Bool
refusal_12 s P = leb s.attributes P

abbrev pub schema_refusal : List ℕ → Option Refusal
schema_refusal schema = refusal_in (schema_answer schema)

-- of a concept that is no view and may have no mark, as select's
abbrev pub plain_refusal : List ℕ → List ℕ → Option Refusal
plain_refusal schema concept = refusal_in (concept_answer query_steps (signature_of schema) concept)

-- what a query may name: marks too
abbrev pub query_signature : List ℕ → Signature
query_signature schema = allowing query_marks (signature_of schema)

abbrev pub query_refusal : List ℕ → List ℕ → Option Refusal
query_refusal schema query = refusal_in (concept_answer query_steps (query_signature schema) query)

abbrev pub view_refusal : List ℕ → List ℕ → Option Refusal
view_refusal schema view = refusal_in (concept_answer view_steps (signature_of schema) view)

abbrev pub state_refusal : List ℕ → List ℕ → Option Refusal
state_refusal schema state = refusal_in (state_answer (signature_of schema) state)

-- what a state for a query gives an object to: the marks that the query uses, too
abbrev pub choice_signature : List ℕ → List ℕ → Signature
choice_signature schema query = allowing (used_marks query) (signature_of schema)

abbrev pub choice_refusal : List ℕ → List ℕ → List ℕ → Option Refusal
choice_refusal schema query state = refusal_in (state_answer (choice_signature schema query) state)

abbrev pub lent_refusal : ℕ → List ℕ → Option Refusal
lent_refusal needed lent = cond (refusal_11 needed lent) (Some refusal.LentWords) None

abbrev pub attribute_refusal : List ℕ → ℕ → Option Refusal
attribute_refusal schema P = cond (refusal_12 (signature_of schema) P) (Some refusal.Attribute) None

-- the first refusal that there is, of those in checking order
unfoldable pub first_refusal : List (Option Refusal) → Option Refusal
first_refusal [] = None
first_refusal (None ∷ l) = first_refusal l
first_refusal (Some r ∷ l) = Some r

abbrev pub refused_or : {A : Type 0} → (Refusal → A) → A → Option Refusal → A
refused_or refused answer None = answer
refused_or refused answer (Some r) = refused r

-- what a call comes to: refused for that reason, and answered where there is none
unfoldable pub outcome : {A : Type 0} → (Refusal → A) → List (Option Refusal) → A → A
outcome refused refusals answer = refused_or refused answer (first_refusal refusals)
