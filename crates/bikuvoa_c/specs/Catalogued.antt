-- A catalogue as C gets it: the rows and the order in two arrays of the caller's, and the number of groups.
use Rattle.std.specs.Prelude.{ℕ, Bool, List, [], ◌∷◌, ◌++◌, ◌≡◌, drop, Option, Some, None, Result, Ok, Err}
use Rattle.records.specs.declared.refusal.Refusal.{Refusal}
use Rattle.records.specs.Layout.{max_views}
use Rattle.records.specs.CatalogueRecord.{views}
use Rattle.records.specs.CatalogueRefusal.{catalogue_refusals}
use Rattle.records.specs.Outcome.{first_refusal, lent_refusal}
use Rattle.catalogue.specs.Order.{held_at, in_group, groups as groups_of}
use Rattle.catalogue.specs.Answers.{TellsEach, Words}
use Rattle.c_answers.specs.Given.{GivenTo}

-- the entries' refusals, then 11 if either array has fewer than 16 words
abbrev pub catalogued_refusals : List ℕ → List ℕ → List ℕ → List ℕ → List (Option Refusal)
catalogued_refusals schema w rows order = catalogue_refusals schema w ++ lent_refusal max_views rows ∷ lent_refusal max_views order ∷ []

-- The first 16 words have digit j of word i by the test, and later words are unaltered.
pub record Written (test : ℕ → ℕ → Bool) (lent words : List ℕ) : Type 0 where
  pub written : List ℕ
  pub digits : Words test written
  pub begins : words ≡ written ++ drop max_views lent

module _ (schema w rows order rows' order' : List ℕ) where
  -- what is written for an accepted catalogue, with so many groups
  pub record Catalogued (groups : ℕ) : Type 0 where
    pub held : ℕ → ℕ → Bool
    pub tells : TellsEach schema w held
    pub writes_rows : Written (held_at (views w) held) rows rows'
    pub writes_order : Written (in_group (views w) held) order order'
    pub counts : groups ≡ groups_of (views w) held

  -- The answer is how many groups there are. A refused call alters no word.
  pub record Cataloguing (answer : Result ℕ Refusal) : Type 0 where
    pub refused : (r : Refusal) → first_refusal (catalogued_refusals schema w rows order) ≡ Some r
        → (answer ≡ Err r) × (rows' ≡ rows) × (order' ≡ order)
    pub answered : first_refusal (catalogued_refusals schema w rows order) ≡ None → (n : ℕ) × (answer ≡ Ok n) × Catalogued n

-- an answer that there may be, with the words after it, and what C gets of it
pub record CataloguedTo (schema w rows order : List ℕ) (groups number : ℕ) (rows' order' : List ℕ) (groups' : ℕ) : Type 0 where
  pub answer : Result ℕ Refusal
  pub cataloguing : Cataloguing schema w rows order rows' order' answer
  pub given : GivenTo (λ n. n) answer groups number groups'
