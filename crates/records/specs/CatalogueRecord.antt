-- Document 02, note 3: a catalogue, which is views under one schema: a count word, a length word for each view, then the views'
-- records one after the other.
use Rattle.std.specs.Prelude.{ℕ, ◌+◌, List, take, drop}
use Rattle.records.specs.Finite.{sum}
use Rattle.records.specs.Layout.{size_at}

-- how many views there are
unfoldable pub views : List ℕ → ℕ
views w = size_at w 0

-- how many words view i has
unfoldable pub length_at : List ℕ → ℕ → ℕ
length_at w i = size_at w (1 + i)

-- where view i starts, after the size words and the views before it; past the last view, where the catalogue ends
unfoldable pub start_at : List ℕ → ℕ → ℕ
start_at w i = 1 + views w + sum i (length_at w)

-- the record of view i
unfoldable pub view_at : List ℕ → ℕ → List ℕ
view_at w i = take (length_at w i) (drop (start_at w i) w)
