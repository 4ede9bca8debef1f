-- Lists in a row: what their entries are, that they ascend where each list has bounds of its own, and how many entries there are.
use Prim.Native.Nat.{ℕ, zero, suc, ◌+◌, ◌*◌, ◌≤◌, ◌<◌}
use native.Mathlib.Nat.{add-zero}
use native.Mathlib.Numerals.{add-one}
use native.Mathlib.Omega.{arith}
use mathlib.Core.List.{List, ◌++◌}
use mathlib.Core.Logic.{⊎_elim}
use mathlib.Core.Path.{◌≡◌, refl, ap, ap₂}
use lib.ListN.{length, length-append}
use Rattle.chase.specs.Targets.{sum}
use Rattle.chase.specs.Written.{gather}
use Rattle.records.proofs.General.AllLaws.{Mem, mem_left, mem_right, mem_split}
use Rattle.records.proofs.General.CountLaws.{up_to}
use Rattle.records.proofs.General.Ascending.{Between, between_none, between_append}
use Rattle.chase.proofs.PairLaws.{sum_le, sum_same}

module _ (f : ℕ → List ℕ) where
  pub gather_of : (n i x : ℕ) → i < n → Mem x (f i) → Mem x (gather n f)
  unfolding gather
  gather_of zero i x h m = absurd (omega arith)
  gather_of (suc n) i x h m =
      up_to (λ j. Mem x (f j) → Mem x (gather (suc n) f)) n (λ j k q. mem_left x (gather n f) (f n) (gather_of n j x k q))
      (mem_right x (gather n f) (f n)) i h m

  pub gather_is : (n x : ℕ) → Mem x (gather n f) → (i : ℕ) × (i < n) × Mem x (f i)
  unfolding gather
  gather_is zero x m = absurd m
  gather_is (suc n) x m =
      ⊎_elim (λ k. let r = gather_is n x k in (r.0, omega (arith, r.1), r.2)) (λ k. (n, omega arith, k))
      (mem_split x (gather n f) (f n) m)

  -- list i has its entries from bound i on and below the next
  pub gather_between : (n : ℕ) (bound : ℕ → ℕ) → ((i : ℕ) → i < n → Between (bound i) (bound (suc i)) (f i))
      → Between (bound 0) (bound n) (gather n f)
  unfolding gather
  gather_between zero bound h = between_none (bound 0) (bound 0) (omega arith)
  gather_between (suc n) bound h =
      between_append (gather n f) (f n) (gather_between n bound (λ i k. h i (omega arith))) (h n (omega arith))

  pub gather_length : (n : ℕ) → length (gather n f) ≡ sum n (λ i. length (f i))
  unfolding gather
  gather_length zero = refl
  gather_length (suc n) = omega (arith, length-append (gather n f) (f n), gather_length n)

  pub gather_bound : (n b : ℕ) → ((i : ℕ) → length (f i) ≤ b) → length (gather n f) ≤ n * b
  gather_bound n b h = omega (arith, gather_length n, sum_le n (λ i. length (f i)) (λ i. b) h, sum_same n b)

  -- one list more, and more lists
  pub gather_more : (n : ℕ) → gather (n + 1) f ≡ gather n f ++ f n
  unfolding gather
  gather_more n = rw add-one

  pub gather_grows : (i j : ℕ) → length (gather i f) ≤ length (gather (i + j) f)
  gather_grows i zero = omega (arith, ap (λ (n : ℕ). length (gather n f)) (add-zero i))
  gather_grows i (suc j) =
      let q : i + suc j ≡ i + j + 1 = omega arith in
      omega (
        arith,
        gather_grows i j,
        ap (λ (n : ℕ). length (gather n f)) q,
        ap length (gather_more (i + j)),
        length-append (gather (i + j) f) (f (i + j)),
      )

-- the same lists
pub gather_below : (f g : ℕ → List ℕ) (n : ℕ) → ((i : ℕ) → i < n → f i ≡ g i) → gather n f ≡ gather n g
unfolding gather
gather_below f g zero h = refl
gather_below f g (suc n) h = ap₂ ◌++◌ (gather_below f g n (λ i l. h i (omega arith))) (h n (omega arith))

pub gather_each : (f g : ℕ → List ℕ) → ((i : ℕ) → f i ≡ g i) → (n : ℕ) → gather n f ≡ gather n g
gather_each f g h n = gather_below f g n (λ i _. h i)

-- rows of rows
pub gather_rows : (m n : ℕ) (f : ℕ → ℕ → List ℕ) (g : ℕ → ℕ → ℕ) → ((i j : ℕ) → length (f i j) ≤ g i j)
    → length (gather m (λ i. gather n (f i))) ≤ sum m (λ i. sum n (g i))
gather_rows m n f g h =
    omega (
      arith,
      gather_length (λ i. gather n (f i)) m,
      sum_le m (λ i. length (gather n (f i))) (λ i. sum n (g i))
          (λ i. omega (arith, gather_length (f i) n, sum_le n (λ j. length (f i j)) (g i) (h i))),
    )
