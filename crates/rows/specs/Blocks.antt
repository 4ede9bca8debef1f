-- Rows of as many bits as there are objects, in blocks of two words. The rows of a list have one number of blocks each.
use Rattle.std.specs.Prelude.{ℕ, ◌+◌, ◌-◌, ◌*◌, ◌/◌, ◌<◌, Bool, ◌&&◌, ◌||◌, List, ◌≡◌, eqb, length}
use Rattle.records.specs.Layout.{object_part}
use Rattle.index.specs.BitSet.{word_bits, bit_at}
use Rattle.rows.specs.Selection.{set_words}

abbrev pub block_words : ℕ
block_words = 2

abbrev pub block_bits : ℕ
block_bits = block_words * word_bits

-- the blocks of a row that is a whole set
abbrev pub set_blocks : ℕ
set_blocks = set_words / block_words

-- the blocks of a row with a bit for each object below n
abbrev pub blocks_for : ℕ → ℕ
blocks_for n = (n + (block_bits - 1)) / block_bits

-- the words of three relations over n objects, each with a row for each object
abbrev pub relation_words : ℕ → ℕ
relation_words n = 3 * (n * blocks_for n) * block_words

-- bit o from block m on
abbrev pub block_bit : List ℕ → ℕ → ℕ → Bool
block_bit ws m o = bit_at ws (m * block_bits + o)

-- bit o of row t, where a row has k blocks
abbrev pub cell : ℕ → List ℕ → ℕ → ℕ → Bool
cell k ws t o = block_bit ws (t * k) o

-- vs is ws with block q put into block p
pub record BlockMerged (ws : List ℕ) (p q : ℕ) (vs : List ℕ) : Type 0 where
  pub size : length vs ≡ length ws
  pub bits : (m o : ℕ) → o < block_bits → block_bit vs m o ≡ (block_bit ws m o || eqb m p && block_bit ws q o)

-- vs is ws with the set put into row r
pub record Joined (ws : List ℕ) (r : ℕ) (set vs : List ℕ) : Type 0 where
  pub size : length vs ≡ length ws
  pub bits : (t o : ℕ) → o < object_part → cell set_blocks vs t o ≡ (cell set_blocks ws t o || eqb t r && bit_at set o)

-- vs is ws with row s put into row r
pub record Merged (k : ℕ) (ws : List ℕ) (r s : ℕ) (vs : List ℕ) : Type 0 where
  pub size : length vs ≡ length ws
  pub bits : (t o : ℕ) → o < k * block_bits → cell k vs t o ≡ (cell k ws t o || eqb t r && cell k ws s o)
