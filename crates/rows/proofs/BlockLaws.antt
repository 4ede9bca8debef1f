-- Rows of blocks. Two rows stand apart, so that a bit's place tells its row; a row is put into another block by block.
use Prim.Native.Nat.{ℕ, ◌+◌, ◌*◌, ◌/◌, ◌%◌, ◌≤◌, ◌<◌}
use mathlib.Core.Bool.{Bool, ◌&&◌, ◌||◌, or-false, and-false, and-true}
use mathlib.Core.List.{List}
use mathlib.Core.Logic.{◌⊎◌, inl, inr, ⊎_elim}
use mathlib.Core.Path.{◌≡◌, refl, sym, ap, ap₂, ◌∙◌}
use native.Mathlib.Decide.{ℕ_discrete, dec_lt}
use native.Mathlib.Nat.{add-zero, add-mul, one-mul, mul-le-mul_right, suc-mul}
use native.Mathlib.Omega.{arith}
use borrow.Author.Tests.{eq-eqb, ne_eqb, lt-ltb, le-ltb}
use lib.Bits.{bit_or}
use lib.Dec.{eqb, ltb}
use lib.ListN.{length, get_or, set}
use Rattle.records.specs.Layout.{object_part}
use Rattle.records.specs.Finite.{bit}
use Rattle.index.specs.BitSet.{word_bits, bit_at}
use Rattle.records.proofs.General.BitLaws.{word_or}
use Rattle.rows.specs.Selection.{set_words}
use Rattle.rows.specs.Rows.{row_bit, Filled, Row}
use Rattle.rows.specs.Blocks.{block_words, block_bits, set_blocks, block_bit, cell, BlockMerged, Joined, Merged}
use Rattle.rows.proofs.RowLaws.{filled_none, filled_more, row_word}

pub row_fits : (t n k : ℕ) → t < n → t * k + k ≤ n * k
row_fits t n k l = omega (arith, mul-le-mul_right k l, suc-mul t k)

pub row_end : (r k n : ℕ) → (r + 1) * k * block_words ≤ n → r * k * block_words + k * block_words ≤ n
row_end r k n h = omega (arith, h, add-mul r 1 k, one-mul k)

pub rows_apart : (r s k : ℕ) → (r ≡ s) ⊎ ((r * k + k ≤ s * k) ⊎ (s * k + k ≤ r * k))
rows_apart r s k = pick (dec_lt r s) (dec_lt s r)
  where
    pick : Dec (r < s) → Dec (s < r) → (r ≡ s) ⊎ ((r * k + k ≤ s * k) ⊎ (s * k + k ≤ r * k))
    pick (yes l) d = inr (inl (row_fits r s k l))
    pick (no l) (yes m) = inr (inr (row_fits s r k m))
    pick (no l) (no m) = inl (omega arith)

-- the same place is in the same row
pub row_one : {r s : ℕ} (k : ℕ) {i j : ℕ} → i < k → j < k → r * k + i ≡ s * k + j → r ≡ s
row_one {r} {s} k l m e =
    ⊎_elim (λ q. q) (λ d. absurd (⊎_elim (λ h. omega (arith, e, h)) (λ h. omega (arith, e, h)) d)) (rows_apart r s k)

pub block_word : (ws : List ℕ) (m o : ℕ) → block_bit ws m o ≡ bit (get_or ws (m * block_words + o / word_bits) 0) (o % word_bits)
unfolding bit_at
block_word ws m o = ap₂ (λ (i k : ℕ). bit (get_or ws i 0) k) (omega arith) (omega arith)

-- a bit of a row is one of a block
pub cell_block : (k : ℕ) (ws : List ℕ) (t o : ℕ) → cell k ws t o ≡ block_bit ws (t * k + o / block_bits) (o % block_bits)
cell_block k ws t o = ap (bit_at ws) (omega arith)

-- A block put into another.

abbrev pub merged_word : List ℕ → ℕ → ℕ → ℕ → ℕ
merged_word ws i j a = bit_or (get_or ws (i + a) 0) (get_or ws (j + a) 0)

-- its two words
filled_block : {ws : List ℕ} (i j : ℕ) → i + block_words ≤ length ws
    → Filled (merged_word ws i j) i block_words ws (set (set ws i (bit_or (get_or ws i 0) (get_or ws j 0))) (i + 1) (bit_or (get_or ws (i + 1) 0) (get_or ws (j + 1) 0)))
filled_block {ws} i j h =
    let first : bit_or (get_or ws i 0) (get_or ws j 0) ≡ merged_word ws i j 0 = ap₂ (λ (a b : ℕ). bit_or (get_or ws a 0) (get_or ws b 0)) (sym (add-zero i)) (sym (add-zero j)) in
    let one = filled_more {f = merged_word ws i j} {base = i} {ws = ws} {j = 0} {place = i} filled_none (sym (add-zero i)) (omega arith) first in
    filled_more one refl (omega (arith, one.size)) refl

pub block_merged : {ws : List ℕ} (p q : ℕ) {i j : ℕ} → i ≡ p * block_words → j ≡ q * block_words → i + block_words ≤ length ws
    → BlockMerged ws p q (set (set ws i (bit_or (get_or ws i 0) (get_or ws j 0))) (i + 1) (bit_or (get_or ws (i + 1) 0) (get_or ws (j + 1) 0)))
block_merged {ws} p q {i} {j} a b h = record { size = z.size; bits = λ m o l. pick m o l (ℕ_discrete m p) }
  where
    vs : List ℕ
    vs = set (set ws i (bit_or (get_or ws i 0) (get_or ws j 0))) (i + 1) (bit_or (get_or ws (i + 1) 0) (get_or ws (j + 1) 0))

    z : Filled (merged_word ws i j) i block_words ws vs
    z = filled_block i j h

    word : (ws : List ℕ) (m o base : ℕ) → base ≡ m * block_words → block_bit ws m o ≡ bit (get_or ws (base + o / word_bits) 0) (o % word_bits)
    word ws m o base e =
        block_word ws m o ∙ ap (λ (x : ℕ). bit (get_or ws (x + o / word_bits) 0) (o % word_bits)) (sym e)

    pick : (m o : ℕ) → o < block_bits → Dec (m ≡ p) → block_bit vs m o ≡ (block_bit ws m o || eqb m p && block_bit ws q o)
    pick m o l (yes e) =
        rw (eq-eqb m p e, word vs m o i (omega arith), word ws m o i (omega arith), word ws q o j b, z.done (o / word_bits) (omega arith))
        (word_or _ _ (o % word_bits))
    pick m o l (no n) =
        rw (ne_eqb m p n, block_word vs m o, block_word ws m o, z.kept (m * block_words + o / word_bits) (λ i m q. n (omega arith)))
        (sym (or-false _))

-- A row put into another: what a turn reads is still as it was.

pub record Merging (k : ℕ) (ws : List ℕ) (r s c : ℕ) (vs : List ℕ) : Type 0 where
  pub size : length vs ≡ length ws
  bits : (t o : ℕ) → o < k * block_bits → cell k vs t o ≡ (cell k ws t o || (eqb t r && ltb o (c * block_bits)) && cell k ws s o)

module _ {k : ℕ} {ws : List ℕ} {r s : ℕ} where
  pub merging_none : Merging k ws r s 0 ws
  merging_none =
      record {
        size = refl;
        bits = λ t o l. sym (rw (le-ltb o 0 (omega arith), and-false (eqb t r)) (or-false (cell k ws t o)));
      }

  pub merging_more : {c : ℕ} {vs us : List ℕ} → Merging k ws r s c vs → c < k → BlockMerged vs (r * k + c) (s * k + c) us → Merging k ws r s (c + 1) us
  merging_more {c} {vs} {us} z room h =
      record {
        size = h.size ∙ z.size;
        bits = λ t o l. cell_block k us t o ∙ h.bits (t * k + o / block_bits) (o % block_bits) (omega arith)
            ∙ rw (← (cell_block k vs t o), z.bits t o l) (pick t o l (ℕ_discrete t r) (ℕ_discrete (o / block_bits) c));
      }
    where
      here : ℕ → ℕ → Bool
      here t o = eqb (t * k + o / block_bits) (r * k + c)

      -- the block that the turn reads
      read : (o : ℕ) → o < k * block_bits → o / block_bits ≡ c → block_bit vs (s * k + c) (o % block_bits) ≡ cell k ws s o
      read o l e =
          ap (bit_at vs) (omega arith) ∙ z.bits s o l
          ∙ rw (le-ltb o (c * block_bits) (omega arith), and-false (eqb s r)) (or-false (cell k ws s o))

      pick : (t o : ℕ) → o < k * block_bits → Dec (t ≡ r) → Dec (o / block_bits ≡ c)
          → ((cell k ws t o || (eqb t r && ltb o (c * block_bits)) && cell k ws s o) || here t o && block_bit vs (s * k + c) (o % block_bits)) ≡ (cell k ws t o || (eqb t r && ltb o ((c + 1) * block_bits)) && cell k ws s o)
      pick t o l (yes e) (yes d) =
          rw (eq-eqb t r e, le-ltb o (c * block_bits) (omega arith), lt-ltb o ((c + 1) * block_bits) (omega arith), eq-eqb (t * k + o / block_bits) (r * k + c) (ap₂ (λ (x y : ℕ). x * k + y) e d), read o l d)
          (ap (λ (b : Bool). b || cell k ws s o) (or-false (cell k ws t o)))
      pick t o l (yes e) (no d) =
          rw (ne_eqb (t * k + o / block_bits) (r * k + c) (λ q. d (omega (arith, ap (λ (x : ℕ). x * k) e, q))), same (dec_lt o (c * block_bits)))
          (or-false _)
        where
          same : Dec (o < c * block_bits) → ltb o (c * block_bits) ≡ ltb o ((c + 1) * block_bits)
          same (yes m) = lt-ltb o (c * block_bits) m ∙ sym (lt-ltb o ((c + 1) * block_bits) (omega arith))
          same (no m) = le-ltb o (c * block_bits) (omega arith) ∙ sym (le-ltb o ((c + 1) * block_bits) (omega arith))
      pick t o l (no n) d =
          rw (ne_eqb t r n, ne_eqb (t * k + o / block_bits) (r * k + c) (λ q. n (row_one k (omega arith) room q))) (or-false _)

  pub merging_all : {c : ℕ} {vs : List ℕ} → Merging k ws r s c vs → k ≤ c → Merged k ws r s vs
  merging_all {c} z l =
      record {
        size = z.size;
        bits = λ t o m. z.bits t o m ∙ rw (lt-ltb o (c * block_bits) (omega arith), and-true (eqb t r));
      }

-- A row that is a whole set.

pub whole_end : (r k n : ℕ) → k ≡ set_blocks → (r + 1) * k * block_words ≤ n → r * set_words + set_words ≤ n
whole_end r k n e h = omega (arith, row_end r k n h, e, ap (λ (x : ℕ). r * x) e)

abbrev pub joined_word : List ℕ → ℕ → List ℕ → ℕ → ℕ
joined_word ws r set i = bit_or (get_or ws (r * set_words + i) 0) (get_or set i 0)

-- the word that a turn reads is still that of the beginning
pub joining_word : {ws vs : List ℕ} (r : ℕ) (set : List ℕ) {j : ℕ} → Filled (joined_word ws r set) (r * set_words) j ws vs → joined_word vs r set j ≡ joined_word ws r set j
joining_word r set {j} z = ap (λ (x : ℕ). bit_or x (get_or set j 0)) (z.kept (r * set_words + j) (λ i m q. omega arith))

-- its bits, as those of a list of sets and as those of its words
whole_row : (ws : List ℕ) (t o : ℕ) → cell set_blocks ws t o ≡ row_bit ws t o
whole_row ws t o = ap (bit_at ws) (omega arith)

pub joined_of : {ws vs : List ℕ} {r : ℕ} {set : List ℕ} → Filled (joined_word ws r set) (r * set_words) set_words ws vs → Joined ws r set vs
unfolding bit_at
joined_of {ws} {vs} {r} {set} z = record { size = z.size; bits = λ t o l. pick t o l (ℕ_discrete t r) }
  where
    pick : (t o : ℕ) → o < object_part → Dec (t ≡ r) → cell set_blocks vs t o ≡ (cell set_blocks ws t o || eqb t r && bit_at set o)
    pick t o l (yes q) =
        rw (whole_row vs t o, whole_row ws t o, eq-eqb t r q, q, row_word vs r o, row_word ws r o, z.done (o / word_bits) (omega arith))
        (word_or _ _ (o % word_bits))
    pick t o l (no n) =
        rw (whole_row vs t o, whole_row ws t o, ne_eqb t r n, row_word vs t o, row_word ws t o, z.kept (t * set_words + o / word_bits) (λ i m q. n (omega arith)))
        (sym (or-false _))

pub merged_by : {ws vs set : List ℕ} {r s : ℕ} → Row ws s set → Joined ws r set vs → Merged set_blocks ws r s vs
merged_by {ws} {vs} {set} {r} {s} h z =
    record {
      size = z.size;
      bits = λ t o l. z.bits t o l ∙ ap (λ (b : Bool). cell set_blocks ws t o || eqb t r && b) (h.bits o l ∙ sym (whole_row ws s o));
    }
