-- The values of an attribute at an object of the candidate, in ascending order, found without a search over all objects.
use Rattle.std.specs.Prelude.{ℕ, zero, suc, ◌+◌, cond, List, [], ◌∷◌, ◌++◌, length}
use Rattle.records.specs.Schema.{Schema}
use Rattle.chase.specs.Ground.{Ground, listing}
use Rattle.chase.specs.Forest.{Forest, size, kid, push, lacks}
use Rattle.chase.specs.Candidate.{links, objects}

abbrev pub sum : ℕ → (ℕ → ℕ) → ℕ
sum zero f = zero
sum (suc n) f = sum n f + f n

module _ (S : Schema) (G : Ground) (T : Forest) where
  -- the query's values, or the made one, or the closing object
  unfoldable pub targets : ℕ → ℕ → List ℕ
  targets P d = listing (links G P d) (λ e. e) G.objects ++ push (kid G T P d) (cond (lacks S G T P d) (size G T ∷ []) [])

  -- how many pairs of the declared attributes the candidate has
  unfoldable pub pairs : ℕ
  pairs = sum S.signature.attributes λ P. sum (objects S G T) λ d. length (targets P d)
