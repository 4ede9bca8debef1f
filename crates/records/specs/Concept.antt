-- Document 01, "Meaning": concepts and paths (the report's query language, section 3.1).
-- A concept holds paths and a path holds concepts.
use Rattle.std.specs.Prelude.{ℕ, Bool, true, false}

pub data Direction : Type 0 where
  forward backward : Direction

-- by whether it goes backward
abbrev pub direction_of : Bool → Direction
direction_of false = forward
direction_of true = backward

mutual
  pub data Concept : Type 0 where
    class : ℕ → Concept
    everything : Concept
    constant : ℕ → Concept
    both : Concept → Concept → Concept
    -- some object is reached by the path
    reached : Path → Concept
    -- the two paths from the object reach a common object
    common : Path → Path → Concept
    -- the object of the mark, the same wherever the mark stands (document 02, note 6)
    mark : ℕ → Concept

  pub data Path : Type 0 where
    empty : Path
    -- a path with one step more at its end: along an attribute, landing on an object of the concept
    step : Path → Direction → ℕ → Concept → Path
