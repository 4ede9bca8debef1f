-- Document 02, note 6: a state's choice of an object for each mark, told apart from the rest of the state.
use Rattle.std.specs.Prelude.{ℕ}
use Rattle.records.specs.State.{State, Every}
use Rattle.records.specs.Schema.{Schema, Legal}
use Rattle.records.specs.Concept.{Concept, class, everything, constant, both, reached, common, mark, Path, empty, step}
use Rattle.records.specs.Semantics.{In}

-- the state with the choice f
abbrev pub choosing : (ℕ → ℕ) → State → State
choosing f I = record { size = I.size; members = I.members; pairs = I.pairs; names = I.names; marks = f }

-- in every legal state, of any finite size, and for every choice, each object in the query is in the view
abbrev pub HeldForEach : Schema → Concept → Concept → Type 0
HeldForEach S query view = (I : State) → Legal S I → (f : ℕ → ℕ) → Every I λ d. In (choosing f I) query d → In I view d

-- the concept, or the path, has no mark
abbrev mutual
  pub Unmarked : Concept → Type 0
  Unmarked (class A) = Unit {0}
  Unmarked everything = Unit {0}
  Unmarked (constant a) = Unit {0}
  Unmarked (both C D) = Unmarked C × Unmarked D
  Unmarked (reached p) = UnmarkedPath p
  Unmarked (common p q) = UnmarkedPath p × UnmarkedPath q
  Unmarked (mark k) = ⊥

  pub UnmarkedPath : Path → Type 0
  UnmarkedPath empty = Unit {0}
  UnmarkedPath (step p r P C) = UnmarkedPath p × Unmarked C
