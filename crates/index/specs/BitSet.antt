-- Sets of numbers as lists of 64-bit words: number b is in the set if bit b % 64 of word b / 64 is 1.
-- A number past the end is in no set.
use Rattle.std.specs.Prelude.{ℕ, ◌/◌, ◌%◌, Bool, ◌||◌, List, ◌≡◌, eqb, length, get_or}
use Rattle.records.specs.Finite.{bit}

abbrev pub word_bits : ℕ
word_bits = 64

-- bit b of a list of 64-bit words
unfoldable pub bit_at : List ℕ → ℕ → Bool
bit_at ws b = bit (get_or ws (b / word_bits) 0) (b % word_bits)

-- vs is ws with number b put in
pub record Inserted (ws : List ℕ) (b : ℕ) (vs : List ℕ) : Type 0 where
  pub size : length vs ≡ length ws
  pub bits : (k : ℕ) → bit_at vs k ≡ (bit_at ws k || eqb k b)
