-- A loop that puts the words of the bytes one after the other at the start of a list.
use Prim.Native.Nat.{ℕ, ◌+◌, ◌/◌, ◌%◌, ◌≤◌, ◌<◌}
use mathlib.Core.List.{List}
use mathlib.Core.Path.{◌≡◌, refl, ◌∙◌, subst, sym}
use mathlib.Core.Logic.{⊎_elim}
use mathlib.Core.Bool.{Bool, true, false, cond}
use lib.Dec.{eqb, ltb}
use borrow.Author.Tests.{ltb-false}
use native.Mathlib.Nat.{eq-or-lt_of_le}
use native.Mathlib.Omega.{arith}
use lib.ListN.{length, get_or, set, length-set}
use lib.Seq.{get_or-set_same, get_or-set_other}
use Rattle.files.specs.Bytes.{word_at, words_of, Decoded}

-- the first i words are read, the others are as before
pub record Filled (bytes before : List ℕ) (i : ℕ) (now : List ℕ) : Type 0 where
  pub kept : length now ≡ length before
  pub read : (k : ℕ) → k < i → get_or now k 0 ≡ word_at bytes k
  pub rest : (k : ℕ) → i ≤ k → get_or now k 0 ≡ get_or before k 0

module _ (bytes before : List ℕ) where
  pub filled_none : Filled bytes before 0 before
  filled_none = record { kept = refl; read = λ k l. absurd (omega arith); rest = λ k l. refl }

  pub filled_more : {i : ℕ} {now : List ℕ} → Filled bytes before i now → i < length before → (v : ℕ) → v ≡ word_at bytes i → Filled bytes before (i + 1) (set now i v)
  filled_more {i} {now} f l v e =
      record {
        kept = length-set now i v ∙ f.kept;
        read = λ k m. ⊎_elim (λ q. here k q) (λ q. get_or-set_other now i k v 0 (λ z. omega arith) ∙ f.read k (omega arith)) (eq-or-lt_of_le (last k m));
        rest = λ k m. get_or-set_other now i k v 0 (λ z. omega arith) ∙ f.rest k (omega arith);
      }
    where
      last : (k : ℕ) → k < i + 1 → k ≤ i
      last k m = omega arith

      here : (k : ℕ) → k ≡ i → get_or (set now i v) k 0 ≡ word_at bytes k
      here k q = subst (λ (j : ℕ). get_or (set now i v) j 0 ≡ word_at bytes j) (sym q) (get_or-set_same now i v 0 (omega (arith, f.kept)) ∙ e)

-- as many words as the bytes give have room
words_fit : (bytes room : ℕ) → words_of bytes room ≤ room
words_fit bytes room = even (eqb (bytes % 2) 0) (ltb room (bytes / 2)) refl
  where
    even : (a b : Bool) → ltb room (bytes / 2) ≡ b → cond a (cond b 0 (bytes / 2)) 0 ≤ room
    even true true e = omega arith
    even true false e = ltb-false room (bytes / 2) e
    even false b e = omega arith

pub decoded_fits : {bytes before : List ℕ} {n : ℕ} {after : List ℕ} → Decoded bytes before n after → n ≤ length after
decoded_fits {bytes} {before} d = omega (arith, d.size, d.kept, words_fit (length bytes) (length before))
