-- What contracts of helper functions cite: sets of views as words, and what is known of the pairs so far.
use Rattle.std.specs.Prelude.{ℕ, ◌^◌, ◌≤◌, ◌<◌, List, Bool, false, cond, not, ◌&&◌, ◌||◌, ◌≡◌, eqb, length, get_or}
use Rattle.std.proofs.Math.Bool.{So}
use Rattle.std.specs.Int.Bits.{bit_and, bit_or}
use Rattle.records.specs.Finite.{any, bit}
use Rattle.records.specs.Layout.{max_views}
use Rattle.records.specs.Subsumption.{Open, Held}
use Rattle.records.specs.SchemaRecord.{signature_of, schema_of}
use Rattle.records.specs.SchemaRefusal.{AcceptedSchema}
use Rattle.records.specs.ConceptRecord.{concept_of}
use Rattle.records.specs.CatalogueRecord.{views, view_at}
use Rattle.records.specs.CatalogueRefusal.{AcceptedCatalogue}
use Rattle.catalogue.specs.Answers.{TellsEach}

-- a set of views for each view
abbrev pub Rows : List ℕ → Type 0
Rows rows = length rows ≡ max_views

-- .. as a relation: view j is in row i
abbrev pub in_row : List ℕ → ℕ → ℕ → Bool
in_row rows i j = bit (get_or rows i 0) j

-- the views that are in no group yet
abbrev pub unplaced : ℕ → ℕ → Bool
unplaced placed i = not (bit placed i)

-- the two sets share a view
unfoldable pub meets : ℕ → ℕ → Bool
meets a b = not (eqb (bit_and a b) 0)

-- a row that has i, with all of above
unfoldable pub joined : ℕ → ℕ → ℕ → ℕ
joined i above row = cond (bit row i) (bit_or row above) row

-- each of the first n rows joined to that of j
pub record Joined (n i j : ℕ) (rows rows' : List ℕ) : Type 0 where
  pub size : Rows rows'
  pub first : (a : ℕ) → a < n → get_or rows' a 0 ≡ joined i (get_or rows j 0) (get_or rows a 0)
  pub rest : (a : ℕ) → n ≤ a → a < max_views → get_or rows' a 0 ≡ get_or rows a 0

-- each of the first n rows has its own view alone
pub record Alone (n : ℕ) (rows : List ℕ) : Type 0 where
  pub size : Rows rows
  pub first : (i : ℕ) → i < n → get_or rows i 0 ≡ 2 ^ i
  pub rest : (i : ℕ) → n ≤ i → i < max_views → get_or rows i 0 ≡ 0

-- a view that i holds is open to one that holds j
unfoldable pub refutes : ℕ → List ℕ → List ℕ → ℕ → ℕ → Bool
refutes n rows opens i j = any n λ a. in_row rows a i && meets (get_or opens a 0) (get_or rows j 0)

-- the pair is settled
abbrev pub settled : List ℕ → List ℕ → ℕ → ℕ → Bool
settled rows opens i j = in_row rows i j || in_row opens i j

module _ (schema w : List ℕ) where
  -- an accepted schema and catalogue
  pub record Accepted : Type 0 where
    pub schema_accepted : AcceptedSchema schema
    pub catalogue_accepted : AcceptedCatalogue (signature_of schema) w

  -- What is in the rows is held, and what is in opens is open. Every view is known to be held by itself.
  pub record Known (rows opens : List ℕ) : Type 0 where
    pub accepted : Accepted
    pub size : Rows rows
    pub opens_size : Rows opens
    pub self : (i : ℕ) → i < views w → So (in_row rows i i)
    pub is_held : (i j : ℕ) → So (in_row rows i j) → (i < views w) × (j < views w) × Held (schema_of schema) (concept_of (view_at w i)) (concept_of (view_at w j))
    pub is_open : (i j : ℕ) → So (in_row opens i j) → (i < views w) × (j < views w) × Open (schema_of schema) (concept_of (view_at w i)) (concept_of (view_at w j))

  -- more is known, and nothing is forgotten
  pub record Grown (rows opens rows' opens' : List ℕ) : Type 0 where
    pub known : Known rows' opens'
    pub keeps : (i j : ℕ) → So (settled rows opens i j) → So (settled rows' opens' i j)

  -- everything is known: the rows tell of each pair, and have nothing else
  pub record HeldRows (rows : List ℕ) : Type 0 where
    pub size : Rows rows
    pub tells : TellsEach schema w (in_row rows)
    pub inside : (i j : ℕ) → So (in_row rows i j) → (i < views w) × (j < views w)

-- the verdicts of one view
pub record Row (verdict : ℕ → Bool) (row : List Bool) : Type 0 where
  pub size : length row ≡ max_views
  pub cells : (j : ℕ) → j < max_views → get_or row j false ≡ verdict j
