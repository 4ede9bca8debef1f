-- A table of tests with n columns, written cell by cell in one row: cell t stands in row t / n and column t % n. As many cells
-- pass as in each row together.
use Prim.Native.Nat.{ℕ, zero, suc, ◌+◌, ◌*◌, ◌/◌, ◌%◌, ◌<◌}
use mathlib.Core.Bool.{Bool, true, false, cond}
use mathlib.Core.Path.{◌≡◌, refl, sym, ap, ap₂, ◌∙◌}
use native.Mathlib.Nat.{zero-mul, mul-add-div_right, mul-add-mod_self_right, mul-le-mul_right, div-eq_of_lt, mod-eq_of_lt, add-zero, add-suc, suc-mul}
use native.Mathlib.Omega.{arith}
use Rattle.records.specs.Finite.{count, sum}
use Rattle.records.proofs.General.FiniteLaws.{count_same}

pub count_add : (f : ℕ → Bool) (m n : ℕ) → count (m + n) f ≡ count m f + count n (λ i. f (m + i))
unfolding count
count_add f m zero = rw add-zero (sym (add-zero (count m f)))
count_add f m (suc n) = rw (add-suc m n) (pick (f (m + n)) (count_add f m n))
  where
    pick : (t : Bool) → count (m + n) f ≡ count m f + count n (λ i. f (m + i))
        → cond t (suc (count (m + n) f)) (count (m + n) f) ≡ count m f + cond t (suc (count n (λ i. f (m + i)))) (count n (λ i. f (m + i)))
    pick true h = omega arith
    pick false h = omega arith

-- the place of a cell
module _ (n d e : ℕ) (l : e < n) where
  pub cell_row : (d * n + e) / n ≡ d
  cell_row = mul-add-div_right (omega arith) d e ∙ omega (arith, div-eq_of_lt l)

  pub cell_column : (d * n + e) % n ≡ e
  cell_column = mul-add-mod_self_right d n e ∙ mod-eq_of_lt l

  pub cell_inside : (m : ℕ) → d < m → d * n + e < m * n
  cell_inside m h = omega (arith, suc-mul d n, mul-le-mul_right n h)

pub count_cells : (f : ℕ → ℕ → Bool) (m n : ℕ) → count (m * n) (λ t. f (t / n) (t % n)) ≡ sum m (λ d. count n (f d))
unfolding sum count
count_cells f zero n = rw (zero-mul n) refl
count_cells f (suc m) n =
    ap (λ (k : ℕ). count k (λ t. f (t / n) (t % n))) (suc-mul m n)
    ∙ count_add (λ t. f (t / n) (t % n)) (m * n) n
    ∙ ap₂ (λ (a b : ℕ). a + b) (count_cells f m n) (count_same _ _ n (λ e l. ap₂ f (cell_row n m e l) (cell_column n m e l)))
