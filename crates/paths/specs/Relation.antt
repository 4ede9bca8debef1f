-- The relation of a path: a row for each target, the set of the origins that lead there. The rows of several relations stand
-- in one list, those of one from its base on.
use Rattle.std.specs.Prelude.{ℕ, ◌+◌, ◌*◌, ◌≤◌, ◌<◌, ◌^◌, Bool, false, ◌&&◌, ◌||◌, List, ◌⊎◌, ◌≡◌, eqb, ltb, length}
use Rattle.records.specs.Finite.{any}
use Rattle.records.specs.State.{State}
use Rattle.records.specs.Concept.{Path, common}
use Rattle.records.specs.Executable.{leads_to}
use Rattle.records.specs.StateRecord.{objects}
use Rattle.index.specs.BitSet.{bit_at}
use Rattle.paths.specs.declared.steps.Step.{Step}
use Rattle.paths.specs.declared.steps.Ends.{Ends}
use Rattle.paths.specs.declared.relation.Bases.{Bases}
use Rattle.rows.specs.Selection.{set_words, Selection}
use Rattle.paths.specs.Steps.{origin_at, target_at, lands, object_in}
use Rattle.rows.specs.Blocks.{block_words, block_bits, cell}

-- row k is none of the n rows from base on
abbrev pub Outside : ℕ → ℕ → ℕ → Type 0
Outside k base n = (k < base) ⊎ (base + n ≤ k)

-- there is room for two relations of n rows that have none in common, and a row has a bit for each of n objects
pub record Room (n : ℕ) (b : Bases) (ws : List ℕ) : Type 0 where
  pub rel : (b.rel + n) * b.blocks * block_words ≤ length ws
  pub spare : (b.spare + n) * b.blocks * block_words ≤ length ws
  pub apart : (b.rel + n ≤ b.spare) ⊎ (b.spare + n ≤ b.rel)
  pub wide : n ≤ b.blocks * block_bits
  pub few : length ws < 2 ^ 32

-- vs is ws with nothing in the n rows from the base on
pub record Cleared (n : ℕ) (b : Bases) (ws vs : List ℕ) : Type 0 where
  pub size : length vs ≡ length ws
  pub bits : (t o : ℕ) → t < n → o < b.blocks * block_bits → cell b.blocks vs (b.rel + t) o ≡ false
  pub kept : (k o : ℕ) → Outside k b.rel n → o < b.blocks * block_bits → cell b.blocks vs k o ≡ cell b.blocks ws k o

-- vs leads from each object below n to itself, in the rows from the base on
pub record Diagonal (n : ℕ) (b : Bases) (ws vs : List ℕ) : Type 0 where
  pub size : length vs ≡ length ws
  pub bits : (t o : ℕ) → t < n → o < b.blocks * block_bits → cell b.blocks vs (b.rel + t) o ≡ eqb o t
  pub kept : (k o : ℕ) → Outside k b.rel n → o < b.blocks * block_bits → cell b.blocks vs k o ≡ cell b.blocks ws k o

-- vs is ws with what fact i carries, if its target is in a set
pub record Followed (w : List ℕ) (e : Ends) (set : List ℕ) (b : Bases) (ws : List ℕ) (i : ℕ) (vs : List ℕ) : Type 0 where
  pub size : length vs ≡ length ws
  pub bits : (k o : ℕ) → o < b.blocks * block_bits
      → cell b.blocks vs k o ≡ (cell b.blocks ws k o || bit_at set (object_in w e.targets i) && (eqb k (b.rel + object_in w e.targets i) && cell b.blocks ws (b.spare + object_in w e.origins i) o))

-- fact i lands on object t, and carries there what led to its origin
abbrev pub carries : List ℕ → Step → List ℕ → ℕ → Bases → List ℕ → ℕ → ℕ → ℕ → Bool
carries w x landings a b ws t o i = lands w x landings a i && (eqb t (target_at w x i) && cell b.blocks ws (b.spare + origin_at w x i) o)

-- vs is what the first n facts carry
pub record Stepped (w : List ℕ) (x : Step) (landings : List ℕ) (a : ℕ) (b : Bases) (ws : List ℕ) (n : ℕ) (vs : List ℕ) : Type 0 where
  pub size : length vs ≡ length ws
  pub bits : (t o : ℕ) → t < objects w → o < b.blocks * block_bits → cell b.blocks vs (b.rel + t) o ≡ any n (carries w x landings a b ws t o)
  pub kept : (k o : ℕ) → Outside k b.rel (objects w) → o < b.blocks * block_bits → cell b.blocks vs k o ≡ cell b.blocks ws k o

-- vs has the relation of the path
pub record Related (I : State) (p : Path) (b : Bases) (ws vs : List ℕ) : Type 0 where
  pub size : length vs ≡ length ws
  pub bits : (t o : ℕ) → t < I.size → o < b.blocks * block_bits → cell b.blocks vs (b.rel + t) o ≡ (ltb o I.size && leads_to I p o t)
  pub kept : (k o : ℕ) → Outside k b.rel I.size → Outside k b.spare I.size → o < b.blocks * block_bits → cell b.blocks vs k o ≡ cell b.blocks ws k o

-- vs is the set with what rows r and s, of k blocks each, share put in
pub record Gathered (k : ℕ) (set ws : List ℕ) (r s : ℕ) (vs : List ℕ) : Type 0 where
  pub size : length vs ≡ length set
  pub bits : (o : ℕ) → o < k * block_bits → bit_at vs o ≡ (bit_at set o || cell k ws r o && cell k ws s o)
  pub kept : (o : ℕ) → k * block_bits ≤ o → bit_at vs o ≡ bit_at set o

-- vs is the set of what some of the first n rows of the two relations share
pub record Shared (n : ℕ) (b : Bases) (ws vs : List ℕ) : Type 0 where
  pub size : length vs ≡ set_words
  pub bits : (o : ℕ) → o < b.blocks * block_bits → bit_at vs o ≡ any n λ t. cell b.blocks ws (b.rel + t) o && cell b.blocks ws (b.spare + t) o
  pub none : (o : ℕ) → b.blocks * block_bits ≤ o → bit_at vs o ≡ false

-- the set is that of the concept, and the lent words have their length
pub record Met (I : State) (p q : Path) (ws vs set : List ℕ) : Type 0 where
  pub size : length vs ≡ length ws
  pub selection : Selection I (common p q) set
