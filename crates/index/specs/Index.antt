-- The index of a state record: which left words its facts have, as a set with a bit for each kind and object.
use Rattle.std.specs.Prelude.{ℕ, ◌*◌, ◌/◌, ◌<◌, Bool, List, ◌≡◌, eqb, length}
use Rattle.records.specs.Finite.{any}
use Rattle.records.specs.Layout.{state_layout, entries, left_at, object_part, fact_kinds}
use Rattle.index.specs.BitSet.{word_bits, bit_at}

-- one more than the left word of the last kind and object
abbrev pub table_bits : ℕ
table_bits = fact_kinds * object_part

abbrev pub table_words : ℕ
table_words = table_bits / word_bits

-- fact i has this left word
abbrev pub left_is : List ℕ → ℕ → ℕ → Bool
left_is w b i = eqb (left_at state_layout w i) b

-- seen is the index of the record w
pub record Indexes (w seen : List ℕ) : Type 0 where
  pub size : length seen ≡ table_words
  pub bits : (b : ℕ) → b < table_bits → bit_at seen b ≡ any (entries state_layout w) (left_is w b)
