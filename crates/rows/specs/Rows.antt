-- What the helpers on words promise. A list of sets has them as rows, and a row has a bit for each object.
use Rattle.std.specs.Prelude.{ℕ, ◌+◌, ◌*◌, ◌<◌, Bool, ◌&&◌, List, ◌≡◌, ltb, length, get_or}
use Rattle.records.specs.Layout.{object_part}
use Rattle.records.specs.StateRecord.{says}
use Rattle.index.specs.BitSet.{bit_at}
use Rattle.rows.specs.Selection.{set_words}

-- bit o of row t
abbrev pub row_bit : List ℕ → ℕ → ℕ → Bool
row_bit ws t o = bit_at ws (t * object_part + o)

-- vs is ws with f 0, f 1 and so on in the places from base on, n of them
pub record Filled (f : ℕ → ℕ) (base n : ℕ) (ws vs : List ℕ) : Type 0 where
  pub size : length vs ≡ length ws
  pub done : (i : ℕ) → i < n → get_or vs (base + i) 0 ≡ f i
  pub kept : (k : ℕ) → ((i : ℕ) → i < n → k ≡ base + i → ⊥) → get_or vs k 0 ≡ get_or ws k 0

-- vs is the set of what row t of ps and of qs share
pub record SharedRow (ps qs : List ℕ) (t : ℕ) (vs : List ℕ) : Type 0 where
  pub size : length vs ≡ set_words
  pub bits : (o : ℕ) → o < object_part → bit_at vs o ≡ (row_bit ps t o && row_bit qs t o)

-- vs is row t of ws as a set
pub record Row (ws : List ℕ) (t : ℕ) (vs : List ℕ) : Type 0 where
  pub size : length vs ≡ set_words
  pub bits : (o : ℕ) → o < object_part → bit_at vs o ≡ row_bit ws t o

-- vs is the set of the objects that the facts of kind k name
pub record KindSet (w : List ℕ) (k : ℕ) (vs : List ℕ) : Type 0 where
  pub size : length vs ≡ set_words
  pub bits : (d : ℕ) → d < object_part → bit_at vs d ≡ says w k d

-- vs is ws with the set as row r
pub record Put (ws : List ℕ) (r : ℕ) (set vs : List ℕ) : Type 0 where
  pub size : length vs ≡ length ws
  pub own : (o : ℕ) → o < object_part → row_bit vs r o ≡ bit_at set o
  pub kept : (k : ℕ) → (k ≡ r → ⊥) → (o : ℕ) → o < object_part → row_bit vs k o ≡ row_bit ws k o

-- vs is the set of the objects below n
pub record Below (n : ℕ) (vs : List ℕ) : Type 0 where
  pub size : length vs ≡ set_words
  pub bits : (d : ℕ) → d < object_part → bit_at vs d ≡ ltb d n
