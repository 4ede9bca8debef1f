-- The set of objects that a concept selects, as 64-bit words.
use Rattle.std.specs.Prelude.{ℕ, ◌/◌, ◌<◌, ◌&&◌, List, ◌≡◌, ltb, length}
use Rattle.records.specs.State.{State}
use Rattle.records.specs.Concept.{Concept}
use Rattle.records.specs.Executable.{is_in}
use Rattle.records.specs.Layout.{object_part}
use Rattle.index.specs.BitSet.{word_bits, bit_at}

-- a set has a bit for each object that a fact can name
abbrev pub set_words : ℕ
set_words = object_part / word_bits

-- bit d of the words says whether the concept selects object d
pub record Selection (I : State) (C : Concept) (ws : List ℕ) : Type 0 where
  pub size : length ws ≡ set_words
  pub bits : (d : ℕ) → d < object_part → bit_at ws d ≡ (ltb d I.size && is_in I C d)
