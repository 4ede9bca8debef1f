-- Counting the numbers below n that pass a test: they are numbered in order and without gaps.
use Prim.Native.Nat.{ℕ, zero, suc, ◌<◌}
use native.Mathlib.Omega.{arith}
use native.Mathlib.Decide.{dec_lt}
use mathlib.Core.Bool.{Bool, So, cond}
use mathlib.Core.Path.{◌≡◌, ap, subst, ◌∙◌}
use lib.Dec.{eqb}
use borrow.Author.Tests.{eqb-true, eqb-false}
use Rattle.records.specs.Finite.{count}
use Rattle.records.proofs.General.BoolLaws.{false_of, cond_elim}
use Rattle.records.proofs.General.FiniteLaws.{none_count, count_le, count_mono, count_next, count_still}

-- of the numbers up to k: of those below k, and of k
pub up_to : (X : ℕ → Type 0) (k : ℕ) → ((d : ℕ) → d < k → X d) → X k → (d : ℕ) → d < suc k → X d
up_to X k below here d h =
    elim (dec_lt d k) [
      | yes y ↦ below d y
      | no n ↦ let q : k ≡ d = omega arith in subst X q here
    ]

module _ (test : ℕ → Bool) where
  -- a number that passes has fewer before it than any later number
  pub count_lt : (n i : ℕ) → i < n → So (test i) → count i test < count n test
  count_lt zero i h p = absurd (omega arith)
  count_lt (suc n) i h p =
      up_to (λ j. So (test j) → count j test < count (suc n) test) n
      (λ j k q. omega (arith, count_lt n j k q, count_mono test n (suc n) (omega arith))) (λ q. omega (arith, count_next test n q)) i h p

  -- where just i passes
  pub count_once : (n i : ℕ) → i < n → So (test i) → ((j : ℕ) → j < n → So (test j) → j ≡ i) → count n test ≡ 1
  count_once zero i h p only = absurd (omega arith)
  count_once (suc n) i h p only =
      elim (dec_lt i n) [
        | yes k ↦
            count_still test n (false_of (test n) (λ q. omega (arith, only n (omega arith) q)))
            ∙ count_once n i k p (λ j l q. only j (omega arith) q)
        | no k ↦
            let e : i ≡ n = omega arith in
            count_next test n (subst (λ (j : ℕ). So (test j)) e p)
            ∙ ap suc (none_count test n (λ j l. false_of (test j) (λ q. omega (arith, only j (omega arith) q))))
      ]

  -- the number that passes with d before it
  pub pick : ℕ → ℕ → ℕ
  pick zero d = zero
  pick (suc n) d = cond (test n) (cond (eqb (count n test) d) n (pick n d)) (pick n d)

  pub pick_is : (n d : ℕ) → d < count n test → (pick n d < n) × So (test (pick n d)) × (count (pick n d) test ≡ d)
  unfolding pick
  pick_is zero d h = absurd (omega (arith, count_le test zero))
  pick_is (suc n) d h =
      cond_elim X (test n)
      (λ p. cond_elim X (eqb (count n test) d) (λ e. (omega arith, p, eqb-true (count n test) d e))
      (λ e. let ne : ¬ (count n test ≡ d) = eqb-false (count n test) d e in before (pick_is n d (omega (arith, count_next test n p)))))
      (λ p. before (pick_is n d (omega (arith, count_still test n p))))
    where
      X : ℕ → Type 0
      X i = (i < suc n) × So (test i) × (count i test ≡ d)

      before : (pick n d < n) × So (test (pick n d)) × (count (pick n d) test ≡ d) → X (pick n d)
      before k = (omega (arith, k.0), k.1, k.2)

  pub count_injective : (i j : ℕ) → So (test i) → So (test j) → count i test ≡ count j test → i ≡ j
  count_injective i j p q e =
      elim (dec_lt i j) [
        | yes h ↦ absurd (omega (arith, count_lt j i h p))
        | no n ↦
            elim (dec_lt j i) [
              | yes h ↦ absurd (omega (arith, count_lt i j h q))
              | no m ↦ omega arith
            ]
      ]
