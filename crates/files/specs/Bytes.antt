-- Document 01, "Triples for the test program": words in a file, the low byte first; a missing, odd or overlong file is refused.
use Rattle.std.specs.Prelude.{ℕ, ◌+◌, ◌*◌, ◌/◌, ◌%◌, ◌≤◌, ◌<◌, List, cond, ◌⊎◌, ◌≡◌, eqb, ltb, length, get_or, take}

abbrev pub word_at : List ℕ → ℕ → ℕ
word_at bytes i = get_or bytes (2 * i) 0 + 256 * get_or bytes (2 * i + 1) 0

-- how many words so many bytes give: all, or none where half a word is left or there is no room for all
abbrev pub words_of : ℕ → ℕ → ℕ
words_of bytes room = cond (eqb (bytes % 2) 0) (cond (ltb room (bytes / 2)) 0 (bytes / 2)) 0

-- those words stand at the start; the others are unaltered
pub record Decoded (bytes before : List ℕ) (n : ℕ) (after : List ℕ) : Type 0 where
  pub size : n ≡ words_of (length bytes) (length before)
  pub kept : length after ≡ length before
  pub read : (i : ℕ) → i < n → get_or after i 0 ≡ word_at bytes i
  pub rest : (i : ℕ) → n ≤ i → get_or after i 0 ≡ get_or before i 0

-- no words of a missing file, and otherwise those of the bytes that were read, which are the first of the lent ones
abbrev pub Loaded : List ℕ → List ℕ → ℕ → List ℕ → Type 0
Loaded bytes before n after = ((n ≡ 0) × (after ≡ before)) ⊎ ((got : ℕ) × (got ≤ length bytes) × Decoded (take got bytes) before n after)

-- What the helper promises, and callers need: the number, and that as many words are there and have room.
pub record IsCount (bytes room n : ℕ) : Type 0 where
  pub size : n ≡ words_of bytes room
  pub there : 2 * n ≤ bytes
  pub fits : n ≤ room
