-- Document 02, note 3: what the entries answer to a schema and a catalogue w, which may be any words.
use Rattle.std.specs.Prelude.{ℕ, ◌<◌, List, [], Bool, false, ◌≡◌, length, get_or, Option, Some, None, Result, Ok, Err}
use Rattle.records.specs.declared.refusal.Refusal.{Refusal}
use Rattle.records.specs.Finite.{bit}
use Rattle.records.specs.Layout.{max_views}
use Rattle.records.specs.CatalogueRecord.{views, view_at}
use Rattle.records.specs.CatalogueRefusal.{catalogue_refusals}
use Rattle.records.specs.Outcome.{first_refusal, outcome}
use Rattle.decide.specs.Holding.{Tells}
use Rattle.catalogue.specs.declared.arrange.Order.{Order}
use Rattle.catalogue.specs.Order.{groups, held_at, in_group}

-- the first refusal that applies, the same for each entry
abbrev pub refusal_of : List ℕ → List ℕ → Option Refusal
refusal_of schema w = first_refusal (catalogue_refusals schema w)

-- what the check answers: that refusal, or nothing
abbrev pub checked : List ℕ → List ℕ → Result (Unit {0}) Refusal
checked schema w = outcome Err (catalogue_refusals schema w) (Ok tt)

-- held tells of each ordered pair of views whether the first is held by the second
abbrev pub TellsEach : List ℕ → List ℕ → (ℕ → ℕ → Bool) → Type 0
TellsEach schema w held = (i j : ℕ) → i < views w → j < views w → Tells schema (view_at w i) (view_at w j) (held i j)

-- 16 arrays of 16 verdicts
pub record Table (verdict : ℕ → ℕ → Bool) (t : List (List Bool)) : Type 0 where
  pub rows : length t ≡ max_views
  pub columns : (i : ℕ) → i < max_views → length (get_or t i []) ≡ max_views
  pub cells : (i j : ℕ) → i < max_views → j < max_views → get_or (get_or t i []) j false ≡ verdict i j

-- Whether view i is held by view j stands at row i and column j. At or above the count nothing is held.
pub record Verdicts (schema w : List ℕ) (answer : Result (List (List Bool)) Refusal) : Type 0 where
  pub refused : (r : Refusal) → refusal_of schema w ≡ Some r → answer ≡ Err r
  pub decided : refusal_of schema w ≡ None
      → (t : List (List Bool)) × (answer ≡ Ok t) × (held : ℕ → ℕ → Bool) × TellsEach schema w held × Table (held_at (views w) held) t

-- 16 words: digit j of word i is 1 if the test says so
pub record Words (test : ℕ → ℕ → Bool) (l : List ℕ) : Type 0 where
  pub size : length l ≡ max_views
  pub digits : (i j : ℕ) → i < max_views → bit (get_or l i 0) j ≡ test i j

-- the groups in their order, each as the set of its views, and how many there are
pub record Arranged (n : ℕ) (held : ℕ → ℕ → Bool) (o : Order) : Type 0 where
  pub sets : Words (in_group n held) o.groups
  pub number : o.count ≡ groups n held

-- the order by the verdicts
pub record Ordering (schema w : List ℕ) (answer : Result Order Refusal) : Type 0 where
  pub refused : (r : Refusal) → refusal_of schema w ≡ Some r → answer ≡ Err r
  pub decided : refusal_of schema w ≡ None
      → (o : Order) × (answer ≡ Ok o) × (held : ℕ → ℕ → Bool) × TellsEach schema w held × Arranged (views w) held o
