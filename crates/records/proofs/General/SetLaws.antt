-- Sets as numbers (set_of of Finite.antt): the set of none and of one, union, what is in a set, and how many are.
use Prim.Native.Nat.{ℕ, zero, suc, ◌+◌, ◌*◌, ◌^◌, ◌≤◌, ◌<◌}
use mathlib.Core.Bool.{Bool, true, false, So, cond, ◌&&◌, ◌||◌, false≢true}
use mathlib.Core.Logic.{◌↔◌}
use mathlib.Core.Path.{◌≡◌, refl, sym, ap, ap₂, ◌∙◌}
use native.Mathlib.Decide.{ℕ_discrete, dec_lt}
use native.Mathlib.Nat.{zero-mul, one-mul, pow-suc}
use native.Mathlib.Omega.{arith}
use borrow.Author.Tests.{eq-eqb, ne_eqb, lt-ltb, le-ltb}
use lib.Bits.{bit_or, or_self, or_zero_l, or_zero_r, or_block, or_shifted}
use lib.Count.{ones, ones_cat}
use lib.Dec.{eqb, ltb}
use Rattle.records.specs.Finite.{any, count, sum, bit, set_of}
use Rattle.records.proofs.General.SumLaws.{sum_turn}
use Rattle.records.proofs.General.BitLaws.{word_or, word_zero, word_one}

module _ (f : ℕ → Bool) where
  -- the next number's digit stands above all others
  set_more : (n : ℕ) → set_of (suc n) f ≡ cond (f n) 1 0 * 2 ^ n + set_of n f
  unfolding set_of sum
  set_more n = pick (f n)
    where
      pick : (b : Bool) → set_of n f + cond b (2 ^ n) 0 ≡ cond b 1 0 * 2 ^ n + set_of n f
      pick true = omega (arith, one-mul (2 ^ n))
      pick false = omega (arith, zero-mul (2 ^ n))

  pub set_small : (n : ℕ) → set_of n f < 2 ^ n
  unfolding set_of sum
  set_small zero = omega arith
  set_small (suc n) = pick (f n) (set_small n)
    where
      pick : (b : Bool) → set_of n f < 2 ^ n → set_of n f + cond b (2 ^ n) 0 < 2 ^ suc n
      pick true h = omega (arith, pow-suc 2 n)
      pick false h = omega (arith, pow-suc 2 n)

  pub set_none : (n : ℕ) → ((k : ℕ) → k < n → f k ≡ false) → set_of n f ≡ 0
  unfolding set_of sum
  set_none zero h = refl
  set_none (suc n) h = rw (h n (omega arith)) (omega (arith, set_none n (λ k l. h k (omega arith))))

  pub set_one : (n a : ℕ) → a < n → ((k : ℕ) → k < n → f k ≡ eqb k a) → set_of n f ≡ 2 ^ a
  unfolding set_of sum
  set_one zero a l h = absurd (omega arith)
  set_one (suc n) a l h =
      elim (ℕ_discrete n a) [
        | yes e ↦
            rw (h n (omega arith), eq-eqb n a e, ← e)
            (omega (arith, set_none n (λ k m. h k (omega arith) ∙ ne_eqb k a (λ q. omega arith))))
        | no d ↦ rw (h n (omega arith), ne_eqb n a d) (omega (arith, set_one n a (omega arith) (λ k m. h k (omega arith))))
      ]

  -- one more number
  bit_more : (n k : ℕ) → bit (set_of (suc n) f) k ≡ (cond (f n) (eqb k n) false || bit (set_of n f) k)
  bit_more n k =
      ap (λ (x : ℕ). bit x k) (set_more n ∙ sym (or_shifted (cond (f n) 1 0) n (set_of n f) (set_small n)))
      ∙ word_or (cond (f n) 1 0 * 2 ^ n) (set_of n f) k ∙ ap (λ (b : Bool). b || bit (set_of n f) k) (pick (f n))
    where
      pick : (b : Bool) → bit (cond b 1 0 * 2 ^ n) k ≡ cond b (eqb k n) false
      pick true = ap (λ (x : ℕ). bit x k) (one-mul (2 ^ n)) ∙ word_one n k
      pick false = ap (λ (x : ℕ). bit x k) (zero-mul (2 ^ n)) ∙ word_zero k

  pub set_past : (n k : ℕ) → n ≤ k → bit (set_of n f) k ≡ false
  unfolding set_of sum
  set_past zero k h = word_zero k
  set_past (suc n) k h = bit_more n k ∙ rw (ne_eqb k n (λ e. omega arith), set_past n k (omega arith)) (pick (f n))
    where
      pick : (b : Bool) → (cond b false false || false) ≡ false
      pick true = refl
      pick false = refl

  pub set_bit : (n k : ℕ) → k < n → bit (set_of n f) k ≡ f k
  set_bit zero k h = absurd (omega arith)
  set_bit (suc n) k h =
      bit_more n k ∙ elim (ℕ_discrete k n) [
        | yes e ↦ rw (eq-eqb k n e, set_past n k (omega arith)) (at (f n) ∙ ap f (sym e))
        | no d ↦ rw (ne_eqb k n d, other (f n)) (set_bit n k (omega arith))
      ]
    where
      at : (b : Bool) → (cond b true false || false) ≡ b
      at true = refl
      at false = refl

      other : (b : Bool) → cond b false false ≡ false
      other true = refl
      other false = refl

  -- any digit
  pub set_digit : (n k : ℕ) → bit (set_of n f) k ≡ (ltb k n && f k)
  set_digit n k =
      elim (dec_lt k n) [
        | yes l ↦ set_bit n k l ∙ sym (rw (lt-ltb k n l) refl)
        | no m ↦ set_past n k (omega arith) ∙ sym (rw (le-ltb k n (omega arith)) refl)
      ]

  -- what the set says, where nothing past n is asked
  pub set_iff : (X : ℕ → Type 0) (n : ℕ) → ((k : ℕ) → So (f k) ↔ X k) → ((k : ℕ) → X k → k < n) → (k : ℕ) → So (bit (set_of n f) k) ↔ X k
  set_iff X n h below k =
      elim (dec_lt k n) [
        | yes l ↦ rw (set_bit n k l) (h k)
        | no m ↦ (λ e. absurd (false≢true (sym (set_past n k (omega arith)) ∙ e)), λ x. absurd (omega (arith, below k x)))
      ]

  -- each number is counted once
  pub set_ones : (n : ℕ) → ones (set_of n f) ≡ count n f
  unfolding set_of sum count ones
  set_ones zero = refl
  set_ones (suc n) =
      ap ones (set_more n) ∙ ones_cat n (cond (f n) 1 0) (set_of n f) (set_small n)
      ∙ ap (λ (x : ℕ). ones (cond (f n) 1 0) + x) (set_ones n) ∙ pick (f n)
    where
      pick : (b : Bool) → ones (cond b 1 0) + count n f ≡ cond b (suc (count n f)) (count n f)
      pick true = omega arith
      pick false = omega arith

-- a loop that adds the next number's digit goes on
pub set_turn : (f : ℕ → Bool) (n : ℕ) {s x : ℕ} → s ≡ set_of n f → x ≡ cond (f n) (2 ^ n) 0 → s + x ≡ set_of (n + 1) f
unfolding set_of
set_turn f n = sum_turn (λ k. cond (f k) (2 ^ k) 0) n

-- union
pub set_or : (f g : ℕ → Bool) (n : ℕ) → set_of n (λ k. f k || g k) ≡ bit_or (set_of n f) (set_of n g)
unfolding set_of sum
set_or f g zero = sym (or_zero_l 0)
set_or f g (suc n) =
    set_more (λ k. f k || g k) n ∙ ap₂ (λ (d x : ℕ). d * 2 ^ n + x) (digit (f n) (g n)) (set_or f g n)
    ∙ sym (or_block n (cond (f n) 1 0) (cond (g n) 1 0) (set_of n f) (set_of n g) (set_small f n) (set_small g n))
    ∙ ap₂ bit_or (sym (set_more f n)) (sym (set_more g n))
  where
    digit : (a b : Bool) → cond (a || b) 1 0 ≡ bit_or (cond a 1 0) (cond b 1 0)
    digit true true = sym (or_self 1)
    digit true false = sym (or_zero_r 1)
    digit false b = sym (or_zero_l (cond b 1 0))

-- the numbers that one of the first i tests passes, and one test more
pub set_gathered : (f : ℕ → ℕ → Bool) (n i : ℕ) {c : ℕ} → c ≡ set_of n (λ k. any i (f k)) → bit_or c (set_of n λ k. f k i) ≡ set_of n (λ k. any (suc i) (f k))
unfolding any
set_gathered f n i e = rw e (sym (set_or (λ k. any i (f k)) (λ k. f k i) n))
