-- Live nodes and the numbers of objects, which depend on the representatives alone.
use Rattle.std.specs.Prelude.{ℕ, ◌+◌, ◌*◌, ◌<◌, Bool, List, [], length, get_or}
use Rattle.chase.specs.Facts.{Edge}
use Rattle.chase.specs.Ground.{live, object_of, renumber}
use Rattle.primary.specs.Formed.{prime}
use Rattle.primary.specs.Words.{part, edge_of}

-- each representative is a node
abbrev pub Inside : List ℕ → Type 0
Inside reps = (i : ℕ) → i < length reps → get_or reps i 0 < length reps

abbrev pub live_in : List ℕ → ℕ → Bool
live_in reps = live (prime reps [])

abbrev pub object_in : List ℕ → ℕ → ℕ
object_in reps = object_of (prime reps [])

abbrev pub renumber_in : List ℕ → Edge → Edge
renumber_in reps = renumber (prime reps [])

-- .. as the word of an edge
abbrev pub renumber_word : List ℕ → ℕ → ℕ
renumber_word reps w =
    ((edge_of w).attribute * part + object_in reps (edge_of w).origin) * part + object_in reps (edge_of w).target
