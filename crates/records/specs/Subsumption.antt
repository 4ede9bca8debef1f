-- Document 01, demand 3 and "What can be put to it": satisfiable, counterexample, and its own terms held and open
-- (the report's subsumption of a query by a view, and its failure). A view is a query whose list is stored.
use Rattle.std.specs.Prelude.{ℕ}
use Rattle.records.specs.State.{State, Every, Some}
use Rattle.records.specs.Schema.{Schema, Legal}
use Rattle.records.specs.Concept.{Concept}
use Rattle.records.specs.Semantics.{In, Selects}

-- some legal state, of any finite size, has an object in the concept
abbrev pub Satisfiable : Schema → Concept → Type 0
Satisfiable S C = (I : State) × Legal S I × Some I λ d. In I C d

-- an object that the query selects and the view does not, in a legal state
pub record Counterexample (S : Schema) (query view : Concept) (I : State) (d : ℕ) : Type 0 where
  pub legal : Legal S I
  pub selected : Selects I query d
  pub outside : In I view d → ⊥

-- some legal state, of any finite size, has such an object
abbrev pub Open : Schema → Concept → Concept → Type 0
Open S query view = (I : State) × (d : ℕ) × Counterexample S query view I d

-- in every legal state, of any finite size, each object in the query is in the view
abbrev pub Held : Schema → Concept → Concept → Type 0
Held S query view = (I : State) → Legal S I → Every I λ d. In I query d → In I view d
