-- What the judge's entries answer to any words, in the terms of the definitions: which objects are selected, that the state is
-- legal, and that an object is the lowest counterexample. (Theorems select_exact, legal_exact and counterexample_exact of
-- proofs/Exactness.antt. Decide has the same in Decision.)
use Rattle.std.specs.Prelude.{ℕ, ◌≤◌, ◌<◌, List, ◌↔◌, ◌≡◌, eqb, length, get_or, Option, Some, None, Result, Ok, Err}
use Rattle.records.specs.declared.refusal.Refusal.{Refusal}
use Rattle.records.specs.Finite.{count}
use Rattle.records.specs.State.{State}
use Rattle.records.specs.Schema.{Schema, Holds, Legal}
use Rattle.records.specs.Concept.{Concept}
use Rattle.records.specs.Semantics.{Selects}
use Rattle.records.specs.Subsumption.{Counterexample}
use Rattle.records.specs.SchemaRecord.{schema_of}
use Rattle.records.specs.ConceptRecord.{concept_of}
use Rattle.records.specs.StateRecord.{state_of}
use Rattle.records.specs.Outcome.{first_refusal}
use Rattle.judge.specs.Select.{select_refusals}
use Rattle.judge.specs.LegalState.{legal_refusals}
use Rattle.judge.specs.Counterexample.{counterexample_refusals}

-- Word i is 1 if object i is selected and 0 if not; later words are unaltered; the answer is how many are selected.
pub record Selected (I : State) (C : Concept) (lent : List ℕ) (answer : Result ℕ Refusal) (words : List ℕ) : Type 0 where
  pub chosen : (i : ℕ) → Selects I C i → get_or words i 0 ≡ 1
  pub others : (i : ℕ) → i < I.size → (Selects I C i → ⊥) → get_or words i 0 ≡ 0
  pub later : (i : ℕ) → I.size ≤ i → get_or words i 0 ≡ get_or lent i 0
  pub kept : length words ≡ length lent
  pub counted : answer ≡ Ok (count I.size λ i. eqb (get_or words i 0) 1)

-- axiom k does not hold, and each earlier one does
pub record FirstBroken (S : Schema) (I : State) (k : ℕ) : Type 0 where
  pub inside : k < S.axioms
  pub broken : Holds I (S.axiom_at k) → ⊥
  pub earlier : (i : ℕ) → i < k → Holds I (S.axiom_at i)

-- none where the state is legal, and otherwise the first broken axiom
pub record Judged (S : Schema) (I : State) (answer : Option ℕ) : Type 0 where
  pub is_legal : (answer ≡ None) ↔ Legal S I
  pub is_broken : (k : ℕ) → (answer ≡ Some k) ↔ FirstBroken S I k

-- object d is a counterexample, and no lower one is
pub record Lowest (S : Schema) (query view : Concept) (I : State) (d : ℕ) : Type 0 where
  pub found : Counterexample S query view I d
  pub lower : (e : ℕ) → e < d → Counterexample S query view I e → ⊥

-- the lowest counterexample, or none where there is no counterexample
pub record Found (S : Schema) (query view : Concept) (I : State) (answer : Option ℕ) : Type 0 where
  pub is_no : (answer ≡ None) ↔ ((d : ℕ) → Counterexample S query view I d → ⊥)
  pub is_yes : (d : ℕ) → (answer ≡ Some d) ↔ Lowest S query view I d

-- To any words: the first refusal that applies, which alters no word, and otherwise the answer.

pub record SelectExact (schema concept state lent : List ℕ) (answer : Result ℕ Refusal) (words : List ℕ) : Type 0 where
  pub refused : (r : Refusal) → first_refusal (select_refusals schema concept state lent) ≡ Some r → (answer ≡ Err r) × (words ≡ lent)
  pub answered : first_refusal (select_refusals schema concept state lent) ≡ None → Selected (state_of state) (concept_of concept) lent answer words

pub record LegalExact (schema state : List ℕ) (answer : Result (Option ℕ) Refusal) : Type 0 where
  pub refused : (r : Refusal) → first_refusal (legal_refusals schema state) ≡ Some r → answer ≡ Err r
  pub answered : first_refusal (legal_refusals schema state) ≡ None
      → (place : Option ℕ) × (answer ≡ Ok place) × Judged (schema_of schema) (state_of state) place

pub record CounterexampleExact (schema query view state : List ℕ) (answer : Result (Option ℕ) Refusal) : Type 0 where
  pub refused : (r : Refusal) → first_refusal (counterexample_refusals schema query view state) ≡ Some r → answer ≡ Err r
  pub answered : first_refusal (counterexample_refusals schema query view state) ≡ None
      → (object : Option ℕ) × (answer ≡ Ok object) × Found (schema_of schema) (concept_of query) (concept_of view) (state_of state) object
