-- Sets of numbers as words: the empty set, and a set with a number put in.
-- Only the word of the number changes, and there only its own bit.
use Prim.Native.Nat.{ℕ, ◌*◌, ◌/◌, ◌%◌, ◌^◌, ◌≤◌, ◌<◌}
use mathlib.Core.Bool.{◌||◌, false, or-false}
use mathlib.Core.List.{List}
use mathlib.Core.Path.{◌≡◌, sym, ap, ◌∙◌}
use native.Mathlib.Nat.{one-mul}
use native.Mathlib.Decide.{ℕ_discrete, dec_lt}
use native.Mathlib.Omega.{arith}
use borrow.Author.Tests.{ne_eqb}
use lib.Bits.{bit_or}
use lib.Dec.{eqb}
use lib.ListN.{length, length-set, get_or, set, replicate, length-replicate, get_or-replicate, get_or-eq_default}
use lib.Pow.{shl_exact}
use lib.Seq.{get_or-set_same, get_or-set_other}
use Rattle.records.specs.Finite.{bit}
use Rattle.index.specs.BitSet.{word_bits, bit_at, Inserted}
use Rattle.records.proofs.General.BoolLaws.{eqb_same}
use Rattle.records.proofs.General.BitLaws.{word_or, word_zero, word_one}

-- a number past the end is not in the set
pub past_bits : (ws : List ℕ) (b : ℕ) → length ws ≤ b / word_bits → bit_at ws b ≡ false
unfolding bit_at
past_bits ws b h = rw (get_or-eq_default ws 0 h) (word_zero (b % word_bits))

-- words of zeros are the empty set
pub zero_bits : (n b : ℕ) → bit_at (replicate n 0) b ≡ false
unfolding bit_at
zero_bits n b = pick (dec_lt (b / word_bits) n)
  where
    pick : Dec (b / word_bits < n) → bit_at (replicate n 0) b ≡ false
    pick (yes l) = rw (get_or-replicate {A = ℕ} n (b / word_bits) 0 0 l) (word_zero (b % word_bits))
    pick (no m) = past_bits (replicate n 0) b (rw (length-replicate {A = ℕ} n 0) (omega arith))

-- the shifted 1 of the code
pub one_bit : (b : ℕ) → 1 * 2 ^ (b % word_bits) % 2 ^ word_bits ≡ 2 ^ (b % word_bits)
one_bit b = shl_exact 1 (b % word_bits) word_bits (omega arith) (omega arith) ∙ one-mul (2 ^ (b % word_bits))

pub insert_is : (ws : List ℕ) (b : ℕ) → b / word_bits < length ws → Inserted ws b (set ws (b / word_bits) (bit_or (get_or ws (b / word_bits) 0) (1 * 2 ^ (b % word_bits) % 2 ^ word_bits)))
unfolding bit_at
insert_is ws b h = rw (one_bit b) (record { size = length-set ws (b / word_bits) word; bits = λ k. pick k (ℕ_discrete (k / word_bits) (b / word_bits)) })
  where
    word : ℕ
    word = bit_or (get_or ws (b / word_bits) 0) (2 ^ (b % word_bits))

    same : (k : ℕ) → k / word_bits ≡ b / word_bits → eqb (k % word_bits) (b % word_bits) ≡ eqb k b
    same k e = eqb_same (k % word_bits) (b % word_bits) k b (λ q. omega arith) (λ q. omega arith)

    pick : (k : ℕ) → Dec (k / word_bits ≡ b / word_bits) → bit_at (set ws (b / word_bits) word) k ≡ (bit_at ws k || eqb k b)
    pick k (yes e) =
        rw (e, get_or-set_same ws (b / word_bits) word 0 h)
        (word_or (get_or ws (b / word_bits) 0) (2 ^ (b % word_bits)) (k % word_bits) ∙ rw (word_one (b % word_bits) (k % word_bits), same k e))
    pick k (no n) =
        rw (get_or-set_other ws (b / word_bits) (k / word_bits) word 0 n, ne_eqb k b (λ q. n (ap (λ (x : ℕ). x / word_bits) q)))
        (sym (or-false (bit (get_or ws (k / word_bits) 0) (k % word_bits))))
