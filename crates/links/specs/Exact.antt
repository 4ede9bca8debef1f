-- What the two counts of links answer to any words, in the terms of the definitions. (Theorems by_first_exact and by_second_exact of
-- proofs/Exactness.antt.)
use Rattle.std.specs.Prelude.{ℕ, ◌<◌, List, ◌≡◌, Some, None, Result, Ok, Err}
use Rattle.records.specs.declared.refusal.Refusal.{Refusal}
use Rattle.records.specs.State.{State, Related}
use Rattle.records.specs.Concept.{Concept}
use Rattle.records.specs.Semantics.{Selects}
use Rattle.records.specs.ConceptRecord.{concept_of}
use Rattle.records.specs.StateRecord.{state_of}
use Rattle.records.specs.Outcome.{first_refusal}
use Rattle.links.specs.Links.{links_refusals}

-- a pair (d, e) of attribute P whose first object is selected
pub record Link (I : State) (C : Concept) (P : ℕ) (d e : ℕ) : Type 0 where
  pub selected : Selects I C d
  pub inside : e < I.size
  pub related : Related I P d e

-- n is the number of links: they can be numbered from 0 to n - 1, each of them once
pub record Numbered (I : State) (C : Concept) (P : ℕ) (n : ℕ) : Type 0 where
  pub first : ℕ → ℕ
  pub second : ℕ → ℕ
  pub links : (i : ℕ) → i < n → Link I C P (first i) (second i)
  pub all : (d e : ℕ) → Link I C P d e → (i : ℕ) × (i < n) × ((first i ≡ d) × (second i ≡ e))
  pub once : (i j : ℕ) → i < n → j < n → first i ≡ first j → second i ≡ second j → i ≡ j

-- To any words, of either count: the first refusal that applies, and otherwise the answer.
pub record LinksExact (schema concept state : List ℕ) (P : ℕ) (answer : Result ℕ Refusal) : Type 0 where
  pub refused : (r : Refusal) → first_refusal (links_refusals schema concept state P) ≡ Some r → answer ≡ Err r
  pub answered : first_refusal (links_refusals schema concept state P) ≡ None
      → (n : ℕ) × (answer ≡ Ok n) × Numbered (state_of state) (concept_of concept) P n
