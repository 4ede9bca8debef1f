-- Decide: "held", with the lent words unaltered, exactly when no legal finite state of any size has an object in the query and
-- outside the view; otherwise "open", with the record of such a state at the start of the lent words.
use Rattle.std.specs.Prelude.{ℕ, ◌≤◌, List, [], ◌∷◌, ◌++◌, ◌↔◌, ◌≡◌, length, drop, Option, Some, None, Result, Ok, Err}
use Rattle.records.specs.declared.refusal.Refusal.{Refusal}
use Rattle.records.specs.Layout.{max_objects, max_state_words}
use Rattle.records.specs.Subsumption.{Counterexample, Open, Held}
use Rattle.records.specs.SchemaRecord.{schema_of}
use Rattle.records.specs.ConceptRecord.{concept_of}
use Rattle.records.specs.StateRecord.{state_of}
use Rattle.records.specs.StateRefusal.{AcceptedState}
use Rattle.records.specs.Outcome.{choice_signature, first_refusal, schema_refusal, query_refusal, view_refusal, lent_refusal}
use Rattle.decide.specs.declared.Witness.{Witness}

abbrev pub decide_refusals : List ℕ → List ℕ → List ℕ → List ℕ → List (Option Refusal)
decide_refusals schema query view lent =
    schema_refusal schema ∷ query_refusal schema query ∷ view_refusal schema view ∷ lent_refusal max_state_words lent ∷ []

module _ (schema query view lent : List ℕ) where
  -- The words begin with the record of a legal state of n objects, accepted with the marks that the query uses, in which object d is
  -- in the query and outside the view. Words after the record are unaltered.
  pub record Shown (n d : ℕ) (words : List ℕ) : Type 0 where
    pub written : List ℕ
    pub begins : words ≡ written ++ drop (length written) lent
    pub room : length written ≤ length lent
    pub accepted : AcceptedState (choice_signature schema query) written
    pub objects : (state_of written).size ≡ n
    pub small : n ≤ max_objects
    pub counterexample : Counterexample (schema_of schema) (concept_of query) (concept_of view) (state_of written) d

  -- what is answered to accepted records: nothing for "held", and for "open" how many objects the state has, and the object
  pub record Verdict (answer : Option Witness) (words : List ℕ) : Type 0 where
    pub is_held : (answer ≡ None) ↔ Held (schema_of schema) (concept_of query) (concept_of view)
    pub unaltered : answer ≡ None → words ≡ lent
    pub is_open : ((w : Witness) × (answer ≡ Some w)) ↔ Open (schema_of schema) (concept_of query) (concept_of view)
    pub shown : (w : Witness) → answer ≡ Some w → Shown w.objects w.object words

  -- what is answered to any words
  pub record Decision (answer : Result (Option Witness) Refusal) (words : List ℕ) : Type 0 where
    pub refused : (r : Refusal) → first_refusal (decide_refusals schema query view lent) ≡ Some r → (answer ≡ Err r) × (words ≡ lent)
    pub decided : first_refusal (decide_refusals schema query view lent) ≡ None → (v : Option Witness) × (answer ≡ Ok v) × Verdict v words
