-- Sums, and counts that are summed: a table of tests has as many that pass by rows as by columns, and things that pass a test
-- are as many as those of each key together.
use Prim.Native.Nat.{ℕ, zero, suc, ◌+◌, ◌*◌, ◌^◌, ◌≤◌, ◌<◌}
use mathlib.Core.Bool.{Bool, true, false, So, cond, ◌&&◌}
use mathlib.Core.Path.{◌≡◌, refl, sym, ap, ◌∙◌}
use native.Mathlib.Numerals.{add-one}
use native.Mathlib.Omega.{arith}
use lib.Dec.{eqb}
use borrow.Author.Tests.{eq-eqb, eqb-true}
use Rattle.records.specs.Finite.{any, count, sum}
use Rattle.records.proofs.General.FiniteLaws.{any_none, any_found, none_count}
use Rattle.records.proofs.General.CountLaws.{count_once}

-- a loop that adds up goes on
pub sum_turn : (f : ℕ → ℕ) (n : ℕ) {s x : ℕ} → s ≡ sum n f → x ≡ f n → s + x ≡ sum (n + 1) f
unfolding sum
sum_turn f n e q = rw (add-one, e, q)

pub sum_same : (f g : ℕ → ℕ) (n : ℕ) → ((i : ℕ) → i < n → f i ≡ g i) → sum n f ≡ sum n g
unfolding sum
sum_same f g zero h = refl
sum_same f g (suc n) h = rw (h n (omega arith), sum_same f g n (λ i l. h i (omega arith)))

-- words that are added up stay small
pub sum_small : (f : ℕ → ℕ) (n : ℕ) → ((i : ℕ) → f i < 2 ^ 16) → sum n f ≤ n * 2 ^ 16
unfolding sum
sum_small f zero h = omega arith
sum_small f (suc n) h = omega (arith, sum_small f n h, h n)

sum_zero : (n : ℕ) → sum n (λ i. 0) ≡ 0
unfolding sum
sum_zero zero = refl
sum_zero (suc n) = omega (arith, sum_zero n)

-- one row more adds to each column what it has there
row_more : (g : ℕ → ℕ) (f : ℕ → Bool) (n : ℕ) → sum n (λ e. cond (f e) (suc (g e)) (g e)) ≡ sum n g + count n f
unfolding sum count
row_more g f zero = refl
row_more g f (suc n) = pick (f n) (row_more g f n)
  where
    pick : (t : Bool) → sum n (λ e. cond (f e) (suc (g e)) (g e)) ≡ sum n g + count n f
        → sum n (λ e. cond (f e) (suc (g e)) (g e)) + cond t (suc (g n)) (g n) ≡ sum n g + g n + cond t (suc (count n f)) (count n f)
    pick true h = omega arith
    pick false h = omega arith

-- by rows or by columns
pub count_swap : (f : ℕ → ℕ → Bool) (m n : ℕ) → sum m (λ d. count n (f d)) ≡ sum n (λ e. count m (λ d. f d e))
unfolding sum count
count_swap f zero n = sym (sum_zero n)
count_swap f (suc m) n = ap (λ (k : ℕ). k + count n (f m)) (count_swap f m n) ∙ sym (row_more (λ e. count m (λ d. f d e)) (f m) n)

pub count_sum : (f : ℕ → Bool) (n : ℕ) → count n f ≡ sum n (λ i. cond (f i) 1 0)
unfolding sum count
count_sum f zero = refl
count_sum f (suc n) = pick (f n) (count_sum f n)
  where
    pick : (t : Bool) → count n f ≡ sum n (λ i. cond (f i) 1 0) → cond t (suc (count n f)) (count n f) ≡ sum n (λ i. cond (f i) 1 0) + cond t 1 0
    pick true h = omega arith
    pick false h = omega arith

-- Of one thing: it has one key, if it passes.
one_key : (b : Bool) (k m : ℕ) → (So b → k < m) → count m (λ d. b && eqb k d) ≡ cond b 1 0
one_key true k m h = count_once (λ d. eqb k d) m k (h refl) (eq-eqb k k refl) (λ j l q. sym (eqb-true k j q))
one_key false k m h = none_count (λ d. false) m (λ d l. refl)

-- key by key
pub count_keys : (f : ℕ → Bool) (key : ℕ → ℕ) (m n : ℕ) → ((i : ℕ) → i < n → So (f i) → key i < m)
    → sum m (λ d. count n (λ i. f i && eqb (key i) d)) ≡ count n f
count_keys f key m n h =
    count_swap (λ d i. f i && eqb (key i) d) m n
    ∙ sum_same (λ i. count m (λ d. f i && eqb (key i) d)) (λ i. cond (f i) 1 0) n (λ i l. one_key (f i) (key i) m (h i l))
    ∙ sym (count_sum f n)

-- where no two pass
pub count_only : (f : ℕ → Bool) (n : ℕ) → ((i j : ℕ) → i < n → j < n → So (f i) → So (f j) → i ≡ j) → count n f ≡ cond (any n f) 1 0
count_only f n only = pick (any n f) refl
  where
    pick : (t : Bool) → any n f ≡ t → count n f ≡ cond t 1 0
    pick true e = let (i, l, p) = any_found f n e in count_once f n i l p (λ j m q. only j i m l q p)
    pick false e = none_count f n (any_none f n e)
