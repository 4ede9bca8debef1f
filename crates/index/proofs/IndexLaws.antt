-- The index of a state record: what it has after the first facts, and what it tells of the state.
-- A left word is a kind and an object together, so a bit of the index answers whether some fact is of both.
use Prim.Native.Nat.{ℕ, ◌+◌, ◌*◌, ◌/◌, ◌%◌, ◌≤◌, ◌<◌}
use mathlib.Core.Bool.{◌&&◌, or-false}
use mathlib.Core.List.{List}
use mathlib.Core.Path.{◌≡◌, sym, ◌∙◌}
use native.Mathlib.Omega.{arith}
use borrow.Author.Tests.{eq-eqb, ne_eqb, eqb-true}
use lib.Dec.{eqb}
use lib.ListN.{length, replicate, length-replicate}
use Rattle.records.specs.Finite.{any}
use Rattle.records.specs.Layout.{state_layout, entries, left_at, object_part, fact_kinds}
use Rattle.records.specs.StateRecord.{kind_at, object_at, says}
use Rattle.records.proofs.General.BoolLaws.{and_both, and_map, test_same, eqb_same}
use Rattle.records.proofs.General.FiniteLaws.{any_zero, any_more, any_same}
use Rattle.index.specs.BitSet.{bit_at, Inserted}
use Rattle.index.specs.Index.{table_bits, table_words, left_is, Indexes}
use Rattle.index.proofs.BitSetLaws.{zero_bits}

-- The index of the first i facts.
pub record Indexed (w seen : List ℕ) (i : ℕ) : Type 0 where
  pub size : length seen ≡ table_words
  pub bits : (b : ℕ) → b < table_bits → bit_at seen b ≡ any i (left_is w b)

module _ (w : List ℕ) where
  pub indexed_none : (n : ℕ) → n ≡ table_words → Indexed w (replicate n 0) 0
  indexed_none n e = record { size = length-replicate n 0 ∙ e; bits = λ b l. zero_bits n b ∙ sym (any_zero (left_is w b)) }

  -- the next left word is put in
  pub indexed_more : {seen next : List ℕ} {i b : ℕ} → Indexed w seen i → b ≡ left_at state_layout w i → Inserted seen b next → Indexed w next (i + 1)
  indexed_more {i = i} {b = b} z e h =
      record {
        size = h.size ∙ z.size;
        bits = λ k l. h.bits k ∙ rw (any_more (left_is w k) i, z.bits k l, ← e, eqb_same k b b k sym sym);
      }

  -- the next left word is past the table, and is passed over
  pub indexed_past : {seen : List ℕ} {i b : ℕ} → Indexed w seen i → b ≡ left_at state_layout w i → table_bits ≤ b → Indexed w seen (i + 1)
  indexed_past {i = i} {b = b} z e h =
      record {
        size = z.size;
        bits = λ k l. rw (any_more (left_is w k) i, ← e, ne_eqb b k (λ q. omega arith), z.bits k l) (sym (or-false (any i (left_is w k))));
      }

  pub indexed_all : {seen : List ℕ} {n : ℕ} → Indexed w seen n → n ≡ entries state_layout w → Indexes w seen
  indexed_all z e = record { size = z.size; bits = λ b l. rw (← e) (z.bits b l) }

left_is_lem : (x k d : ℕ) → d < object_part → (eqb (x / object_part) k && eqb (x % object_part) d) ≡ eqb x (k * object_part + d)
left_is_lem x k d l =
    test_same (eqb (x / object_part) k && eqb (x % object_part) d) (eqb x (k * object_part + d))
    (λ t. let p = and_map (eqb-true (x / object_part) k) (eqb-true (x % object_part) d) t in eq-eqb x (k * object_part + d) (omega arith))
    (λ t. let p = eqb-true x (k * object_part + d) t in
    and_both (eqb (x / object_part) k) _ (eq-eqb (x / object_part) k (omega arith)) (eq-eqb (x % object_part) d (omega arith)))

-- Whether some fact is of a kind and an object is one bit of the index.
pub index_says : {w seen : List ℕ} → Indexes w seen → (k d : ℕ) → k < fact_kinds → d < object_part → says w k d ≡ bit_at seen (k * object_part + d)
unfolding says kind_at object_at
index_says {w} {seen} z k d l m =
    any_same (λ i. eqb (kind_at w i) k && eqb (object_at w i) d) (left_is w (k * object_part + d)) (entries state_layout w) (λ i h _. left_is_lem (left_at state_layout w i) k d m)
    ∙ sym (z.bits (k * object_part + d) (omega arith))
