-- Class sets as sets: what union, the set of one class, the full and the empty set have; that union only makes the number
-- larger; and that two sets meet where a class is in both. All by one law: a class is in a set by its bit (has_bit).
use Prim.Native.Nat.{ℕ, zero, suc, ◌+◌, ◌-◌, ◌*◌, ◌/◌, ◌%◌, ◌^◌, ◌≤◌, ◌<◌}
use native.Mathlib.Omega.{arith}
use native.Mathlib.Nat.{mod-lt, div-eq_of_lt, zero-lt-suc, zero-mul, one-mul, pow-suc}
use native.Mathlib.Decide.{dec_lt}
use mathlib.Core.Bool.{So, not, ◌&&◌, ◌||◌, false≢true}
use mathlib.Core.Logic.{◌⊎◌, ◌≢◌}
use mathlib.Core.Path.{◌≡◌, refl, sym, ap, ap₂, subst, ◌∙◌}
use lib.Dec.{eqb}
use lib.Bits.{bit_and, bit_or, and_high, or_add_and, and_le_l, and_le_r}
use lib.Pow.{pow_pos, pow_mono, pow-add, pow-lt, high, ones_lt, ones_split}
use borrow.Author.Tests.{eq-eqb, ne_eqb, eqb-true, eqb-false, not-true}
use Rattle.records.specs.Finite.{bit}
use Rattle.records.proofs.General.BoolLaws.{or_left, or_right, or_true_cases}
use Rattle.records.proofs.General.BitLaws.{word_or, word_and, word_zero, word_one, and_some}
use Rattle.chase.specs.ClassSet.{place, meets, has, full}

and_place : (c A : ℕ) → bit_and c (2 ^ A) ≡ c / 2 ^ A % 2 * 2 ^ A
and_place c A =
    let q : 2 ^ A ≡ 2 ^ (1 + A) - 2 ^ A = omega (arith, pow-add 2 1 A) in
    ap (bit_and c) q ∙ and_high c 1 A

-- a class is in a set by its bit
pub has_bit : (c A : ℕ) → bit c A ≡ has c A
unfolding has meets place
has_bit c A = pick (c / 2 ^ A % 2) (mod-lt (c / 2 ^ A) (zero-lt-suc 1)) ∙ ap (λ (x : ℕ). not (eqb x 0)) (sym (and_place c A))
  where
    pick : (d : ℕ) → d < 2 → eqb d 1 ≡ not (eqb (d * 2 ^ A) 0)
    pick zero h = rw (zero-mul (2 ^ A))
    pick (suc zero) h = rw (one-mul (2 ^ A), ne_eqb (2 ^ A) 0 (λ e. omega (arith, pow_pos A)))
    pick (suc (suc d)) h = absurd (omega arith)

has_or : (c d A : ℕ) → has (bit_or c d) A ≡ (has c A || has d A)
has_or c d A = sym (has_bit (bit_or c d) A) ∙ word_or c d A ∙ ap₂ ◌||◌ (has_bit c A) (has_bit d A)

-- union

pub has_left : (c d A : ℕ) → So (has c A) → So (has (bit_or c d) A)
has_left c d A h = has_or c d A ∙ or_left (has c A) (has d A) h

pub has_right : (c d A : ℕ) → So (has d A) → So (has (bit_or c d) A)
has_right c d A h = has_or c d A ∙ or_right (has c A) (has d A) h

pub has_split : (c d A : ℕ) → So (has (bit_or c d) A) → So (has c A) ⊎ So (has d A)
has_split c d A h = or_true_cases (has c A) (has d A) (sym (has_or c d A) ∙ h)

pub has_absorbed : (c d A : ℕ) → bit_or c d ≡ c → So (has d A) → So (has c A)
has_absorbed c d A e h = subst (λ (x : ℕ). So (has x A)) e (has_right c d A h)

pub or_le : (c d : ℕ) → c ≤ bit_or c d
or_le c d = omega (arith, or_add_and c d, and_le_r c d)

pub or_le_right : (c d : ℕ) → d ≤ bit_or c d
or_le_right c d = omega (arith, or_add_and c d, and_le_l c d)

-- the empty set, the set of one class, the full set

pub has_none : (A : ℕ) → So (has 0 A) → ⊥
has_none A h = false≢true (sym (word_zero A) ∙ has_bit 0 A ∙ h)

-- a set below 2 ^ n has classes below n alone
pub has_below : (n c A : ℕ) → c < 2 ^ n → So (has c A) → A < n
has_below n c A small h =
    elim (dec_lt A n) [
      | yes y ↦ y
      | no k ↦
          let le : 2 ^ n ≤ 2 ^ A = pow_mono (omega arith) in
          absurd (false≢true (sym (rw (div-eq_of_lt {n = c} {m = 2 ^ A} (omega arith))) ∙ has_bit c A ∙ h))
    ]

has_place : (A B : ℕ) → has (place A) B ≡ eqb B A
unfolding place
has_place A B = sym (has_bit (2 ^ A) B) ∙ word_one A B

pub place_has : (A : ℕ) → So (has (place A) A)
place_has A = has_place A A ∙ eq-eqb A A refl

pub place_only : (A B : ℕ) → So (has (place A) B) → A ≡ B
place_only A B h = sym (eqb-true B A (sym (has_place A B) ∙ h))

pub place_below : (n A : ℕ) → A < n → place A < 2 ^ n
unfolding place
place_below n A h = pow-lt h

pub full_has : (n A : ℕ) → A < n → So (has (full n) A)
unfolding full
full_has n A h =
    let q : n ≡ suc (n - suc A) + A = omega arith in
    sym (has_bit (2 ^ n - 1) A) ∙ ap (λ (x : ℕ). bit (2 ^ x - 1) A) q ∙ top (n - suc A)
  where
    -- the digit A of 2 ^ n - 1
    top : (j : ℕ) → So (bit (2 ^ (suc j + A) - 1) A)
    top j =
        eq-eqb ((2 ^ (suc j + A) - 1) / 2 ^ A % 2) 1
        (ap (λ (x : ℕ). x / 2 ^ A % 2) (ones_split (suc j) A) ∙ ap (λ (x : ℕ). x % 2) (high (2 ^ suc j - 1) A (ones_lt A))
        ∙ omega (arith, pow-suc 2 j, pow_pos j))

-- two sets that meet

nonzero_of : (x : ℕ) → x ≢ 0 → So (not (eqb x 0))
nonzero_of x h = ap not (ne_eqb x 0 h)

nonzero_is : (x : ℕ) → So (not (eqb x 0)) → x ≢ 0
nonzero_is x h e = eqb-false x 0 (not-true (eqb x 0) h) e

pub meets_of : (c d A : ℕ) → So (has c A) → So (has d A) → So (meets c d)
unfolding meets
meets_of c d A h k =
    nonzero_of (bit_and c d) λ q.
    false≢true (sym (word_zero A) ∙ ap (λ (x : ℕ). bit x A) (sym q) ∙ word_and c d A ∙ ap₂ ◌&&◌ (has_bit c A ∙ h) (has_bit d A ∙ k))

pub meets_some : (c d : ℕ) → So (meets c d) → (A : ℕ) × So (has c A) × So (has d A)
unfolding meets
meets_some c d h =
    let (A, x, y) = and_some c d (nonzero_is (bit_and c d) h) in
    (A, sym (has_bit c A) ∙ x, sym (has_bit d A) ∙ y)
