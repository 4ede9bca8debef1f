-- Listing the numbers below n that pass a test: as many as are counted, each at its count.
use Prim.Native.Nat.{ℕ, zero, suc, ◌<◌}
use native.Mathlib.Omega.{arith}
use mathlib.Core.Bool.{Bool, So, cond}
use mathlib.Core.Path.{◌≡◌, refl, ap, ◌∙◌}
use mathlib.Core.List.{List, [], ◌∷◌, ◌++◌}
use lib.ListN.{length, get_or, length-append, get_or-append}
use lib.Seq.{get_or_at}
use Rattle.records.specs.Finite.{count}
use Rattle.records.proofs.General.BoolLaws.{cond_elim, cond_elim₂}
use Rattle.records.proofs.General.CountLaws.{up_to, count_lt}
use Rattle.records.specs.Helpers.Loops.{upto}
use Rattle.chase.specs.Ground.{listing}

module _ (test : ℕ → Bool) (f : ℕ → ℕ) where
  pub listing_length : (n : ℕ) → length (listing test f n) ≡ count n test
  unfolding listing upto count
  listing_length zero = refl
  listing_length (suc n) =
      cond_elim₂ {A = List ℕ} (λ l c. length l ≡ c) (test n)
      (λ _. omega (arith, length-append (listing test f n) (f n ∷ []), listing_length n)) (λ _. listing_length n)

  pub listing_at : (n i : ℕ) → i < n → So (test i) → get_or (listing test f n) (count i test) 0 ≡ f i
  unfolding listing upto
  listing_at zero i h p = absurd (omega arith)
  listing_at (suc n) i h p =
      up_to (λ j. So (test j) → get_or (listing test f (suc n)) (count j test) 0 ≡ f j) n
      (λ j k q.
      cond_elim {A = List ℕ} (λ l. get_or l (count j test) 0 ≡ f j) (test n)
      (λ _. get_or-append (listing test f n) (f n ∷ []) 0 (count j test)
      (omega (arith, listing_length n, count_lt test n j k q)) ∙ listing_at n j k q)
      (λ _. listing_at n j k q))
      (λ q.
      ap (λ (b : Bool). get_or (cond b (listing test f n ++ (f n ∷ [])) (listing test f n)) (count n test) 0) q
      ∙ get_or_at (listing test f n) (f n) [] 0 (count n test) (listing_length n))
      i h p
