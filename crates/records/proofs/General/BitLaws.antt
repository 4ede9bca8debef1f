-- The bits of one number: of a union, of an intersection, of 0, of a number with one bit and of a number that was shifted; and
-- of a number that is not 0.
-- A shift passes through a union or an intersection, so that only the lowest digits are left to compare.
use Prim.Native.Nat.{ℕ, zero, suc, ◌+◌, ◌-◌, ◌/◌, ◌%◌, ◌^◌, ◌≤◌, ◌<◌, min, max}
use mathlib.Core.Bool.{Bool, true, false, So, ◌&&◌, ◌||◌}
use mathlib.Core.Logic.{◌≢◌}
use mathlib.Core.Path.{◌≡◌, refl, sym, ap, ◌∙◌}
use native.Mathlib.Nat.{zero-div, div-eq_of_lt, div-one, div_self, mod-lt, zero-lt-suc}
use native.Mathlib.Numerals.{one-add}
use native.Mathlib.Decide.{dec_lt, ℕ_discrete}
use native.Mathlib.Omega.{arith}
use borrow.Author.Tests.{eq-eqb, ne_eqb}
use lib.Bits.{bit_and, bit_or, and_step, or_step, and_shr, or_shr}
use lib.Arith.{bin_ind}
use lib.Dec.{eqb}
use lib.Pow.{pow-add, pow-lt, pow_pos, shl-shr, shr-shr}
use Rattle.records.specs.Finite.{bit}
use Rattle.records.proofs.General.BoolLaws.{and_parts}

-- An operation through which a shift passes does to the bits what it does to the lowest digits.
module _ (op low : ℕ → ℕ → ℕ) (on : Bool → Bool → Bool)
    (shift : (x y k : ℕ) → op x y / 2 ^ k ≡ op (x / 2 ^ k) (y / 2 ^ k))
    (lowest : (x y : ℕ) → op x y % 2 ≡ low (x % 2) (y % 2))
    (none : eqb (low 0 0) 1 ≡ on false false) (second : eqb (low 0 1) 1 ≡ on false true)
    (first : eqb (low 1 0) 1 ≡ on true false) (both : eqb (low 1 1) 1 ≡ on true true) where
  digit_op : (p q : ℕ) → p < 2 → q < 2 → eqb (low p q) 1 ≡ on (eqb p 1) (eqb q 1)
  digit_op zero zero h l = none
  digit_op zero (suc zero) h l = second
  digit_op zero (suc (suc q)) h l = absurd (omega arith)
  digit_op (suc zero) zero h l = first
  digit_op (suc zero) (suc zero) h l = both
  digit_op (suc zero) (suc (suc q)) h l = absurd (omega arith)
  digit_op (suc (suc p)) q h l = absurd (omega arith)

  word_op : (x y k : ℕ) → bit (op x y) k ≡ on (bit x k) (bit y k)
  word_op x y k =
      ap (λ (n : ℕ). eqb (n % 2) 1) (shift x y k)
      ∙ ap (λ (n : ℕ). eqb n 1) (lowest (x / 2 ^ k) (y / 2 ^ k))
      ∙ digit_op (x / 2 ^ k % 2) (y / 2 ^ k % 2) (omega arith) (omega arith)

pub word_or : (x y k : ℕ) → bit (bit_or x y) k ≡ (bit x k || bit y k)
word_or = word_op bit_or max ◌||◌ or_shr (λ x y. omega (arith, or_step x y)) refl refl refl refl

pub word_and : (x y k : ℕ) → bit (bit_and x y) k ≡ (bit x k && bit y k)
word_and = word_op bit_and min ◌&&◌ and_shr (λ x y. omega (arith, and_step x y)) refl refl refl refl

pub word_zero : (k : ℕ) → bit 0 k ≡ false
word_zero k = rw (zero-div (2 ^ k))

-- a number with one bit
pub word_one : (b k : ℕ) → bit (2 ^ b) k ≡ eqb k b
word_one b k = pick (dec_lt k b) (dec_lt b k)
  where
    even : (i : ℕ) → 2 ^ (suc i + k) / 2 ^ k % 2 ≡ 0
    even i = rw (pow-add 2 (suc i) k, shl-shr (2 ^ suc i) k) (omega arith)

    other : (k ≡ b → ⊥) → 2 ^ b / 2 ^ k % 2 ≡ 0 → bit (2 ^ b) k ≡ eqb k b
    other n e = rw (e, ne_eqb k b n)

    pick : Dec (k < b) → Dec (b < k) → bit (2 ^ b) k ≡ eqb k b
    pick (yes l) d = let e : b ≡ suc (b - suc k) + k = omega arith in other (λ q. omega arith) (rw e (even (b - suc k)))
    pick (no m) (yes l) = other (λ q. omega arith) (rw (div-eq_of_lt (pow-lt l)))
    pick (no m) (no l) = let e : k ≡ b = omega arith in rw (eq-eqb k b e, e, div_self (pow_pos b))

-- the bits of a number that was shifted, and those past the last
pub bit_shifted : (x c k : ℕ) → bit (x / 2 ^ c) k ≡ bit x (c + k)
bit_shifted x c k = ap (λ (n : ℕ). eqb (n % 2) 1) (shr-shr x c k)

pub bit_past : (x c k : ℕ) → x / 2 ^ c ≡ 0 → c ≤ k → bit x k ≡ false
bit_past x c k e h =
    let q : k ≡ c + (k - c) = omega arith in
    ap (λ (n : ℕ). bit x n) q ∙ sym (bit_shifted x c (k - c)) ∙ ap (λ (n : ℕ). bit n (k - c)) e ∙ word_zero (k - c)

-- a number that is not 0 has a bit
pub some_bit : (x : ℕ) → x ≢ 0 → (A : ℕ) × So (bit x A)
some_bit = bin_ind (λ x. x ≢ 0 → (A : ℕ) × So (bit x A)) (λ h. absurd (h refl)) step
  where
    step : (n : ℕ) → (n / 2 ≢ 0 → (A : ℕ) × So (bit (n / 2) A)) → n ≢ 0 → (A : ℕ) × So (bit n A)
    step n rest h =
        elim (ℕ_discrete (n % 2) 1) [
          | yes y ↦ (0, eq-eqb (n / 1 % 2) 1 (ap (λ (x : ℕ). x % 2) (div-one n) ∙ y))
          | no k ↦
              let r = rest (omega (arith, mod-lt n (zero-lt-suc 1))) in
              (suc r.0, ap (λ (x : ℕ). eqb (x % 2) 1) (ap (λ (i : ℕ). n / 2 ^ i) (sym (one-add r.0)) ∙ sym (shr-shr n 1 r.0)) ∙ r.1)
        ]

-- two numbers whose intersection is not 0 share a bit
pub and_some : (x y : ℕ) → bit_and x y ≢ 0 → (k : ℕ) × So (bit x k) × So (bit y k)
and_some x y h =
    let (k, e) = some_bit (bit_and x y) h in
    let both = and_parts (bit x k) (bit y k) (sym (word_and x y k) ∙ e) in
    (k, both.0, both.1)
