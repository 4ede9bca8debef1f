-- Equations whose marks are read as nodes, by a table of what stood last beside each number of a part.
use Rattle.std.specs.Prelude.{ℕ, ◌+◌, ◌*◌, ◌/◌, ◌%◌, ◌<◌, cond, List, map, ◌≡◌, ltb, length, get_or}
use Rattle.chase.specs.Bounds.{max_nodes}
use Rattle.chase.specs.Task.{anchor}
use Rattle.primary.specs.Words.{part, node_in}
use Rattle.asked.specs.Listed.{equation_of}

-- the left nodes of the words are below a part
abbrev pub LeftsIn : List ℕ → Type 0
LeftsIn l = (i : ℕ) → i < length l → (equation_of (get_or l i 0)).left < part

-- the nodes of the marks, with d for one that stands nowhere
pub record Anchored (d : ℕ) (words nodes : List ℕ) : Type 0 where
  pub room : length nodes ≡ part
  pub value : (k : ℕ) → max_nodes + k < part → node_in nodes k ≡ anchor d (map equation_of words) k

-- nodes below a part
pub record Small (nodes : List ℕ) : Type 0 where
  pub room : length nodes ≡ part
  pub below : (r : ℕ) → r < part → get_or nodes r 0 < part

-- the word of an equation as the word of a tie
abbrev pub tie_word : List ℕ → ℕ → ℕ
tie_word nodes w = cond (ltb (w % part) max_nodes) w (w / part * part + get_or nodes (w % part) 0)
