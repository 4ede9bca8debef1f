-- The loops of the procedure: over a list, over the numbers below n, and until a measure stands still.
use Rattle.std.specs.Prelude.{ℕ, zero, suc, Bool, true, false, ◌||◌, List, [], ◌∷◌, eqb}

module _ {A X : Type 0} where
  unfoldable pub each : (A → X → X) → List A → X → X
  each run [] x = x
  each run (a ∷ l) x = each run l (run a x)

-- some entry of the list passes the test
unfoldable pub any_of : {A : Type 0} → (A → Bool) → List A → Bool
any_of test [] = false
any_of test (a ∷ l) = test a || any_of test l

module _ {X : Type 0} where
  unfoldable pub upto : (ℕ → X → X) → ℕ → X → X
  upto run zero x = x
  upto run (suc n) x = run n (upto run n x)

  -- at most so many rounds of f, to the first that leaves the measure as it was
  unfoldable pub settle : (X → ℕ) → (X → X) → ℕ → X → X
  settle measure f zero x = x
  settle measure f (suc n) x = let y = f x in elim (eqb (measure y) (measure x)) [ true ↦ y | false ↦ settle measure f n y ]
