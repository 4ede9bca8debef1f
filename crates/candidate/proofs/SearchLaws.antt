-- The search for a lack goes by attributes, the definition by objects.
use Prim.Native.Nat.{ℕ, suc, ◌+◌, ◌≤◌, ◌<◌}
use mathlib.Core.Bool.{Bool, true, false, So, cond}
use mathlib.Core.Path.{◌≡◌, refl, sym, ap, ◌∙◌}
use native.Mathlib.Numerals.{add-one}
use native.Mathlib.Omega.{arith}
use Rattle.records.specs.Finite.{any}
use Rattle.records.specs.Schema.{Schema}
use Rattle.records.proofs.General.FiniteLaws.{any_of_lem, any_found, any_none, none_any, any_same}
use Rattle.chase.specs.Ground.{Ground}
use Rattle.chase.specs.Forest.{Forest, size, lacks}
use Rattle.chase.specs.Candidate.{lacking, objects}
use Rattle.records.proofs.General.BoolLaws.{cond_elim}
use Rattle.candidate.specs.Facts.{lacks_one}

module _ (f : ℕ → ℕ → Bool) (n m : ℕ) where
  swap_found : So (any n λ i. any m (f i)) → So (any m λ j. any n λ i. f i j)
  swap_found h =
      let a = any_found (λ i. any m (f i)) n h in
      let b = any_found (f a.0) m a.2 in
      any_of_lem (λ j. any n λ i. f i j) m b.0 b.1 (any_of_lem (λ i. f i b.0) n a.0 a.1 b.2)

  swap_none : (any n λ i. any m (f i)) ≡ false → (any m λ j. any n λ i. f i j) ≡ false
  swap_none h =
      none_any (λ j. any n λ i. f i j) m λ j k.
      none_any (λ i. f i j) n λ i l. any_none (f i) m (any_none (λ i. any m (f i)) n h i l) j k

  any_swap : (any n λ i. any m (f i)) ≡ (any m λ j. any n λ i. f i j)
  any_swap = go (any n λ i. any m (f i)) refl
    where
      go : (b : Bool) → (any n λ i. any m (f i)) ≡ b → b ≡ (any m λ j. any n λ i. f i j)
      go true h = sym (swap_found h)
      go false h = sym (swap_none h)

lacking_by : (S : Schema) (G : Ground) (T : Forest) → lacking S G T ≡ any S.signature.attributes (lacks_one S G T)
unfolding lacking
lacking_by S G T = any_swap (λ d P. lacks S G T P d) (size G T) S.signature.attributes

-- the search over the objects for a lack of P, and over the attributes
module _ (S : Schema) (G : Ground) (T : Forest) where
  pub lacks_any : (P n : ℕ) (test : ℕ → Bool) → size G T ≡ n → ((d : ℕ) → d < n → test d ≡ lacks S G T P d) → any n test ≡ lacks_one S G T P
  lacks_any P n test q h = any_same test (lacks S G T P) n (λ d l _. h d l) ∙ ap (λ (m : ℕ). any m (lacks S G T P)) (sym q)

  pub lacking_any : (n : ℕ) → n ≡ S.signature.attributes → any n (lacks_one S G T) ≡ lacking S G T
  lacking_any n q = ap (λ (m : ℕ). any m (lacks_one S G T)) q ∙ sym (lacking_by S G T)

  -- the closing object is one more
  pub objects_on : (n : ℕ) (b : Bool) → size G T ≡ n → b ≡ lacking S G T → So b → n + 1 ≡ objects S G T
  unfolding objects
  objects_on n b q e h = add-one n ∙ ap suc (sym q) ∙ sym (ap (λ (t : Bool). cond t (suc (size G T)) (size G T)) (sym e ∙ h))

  pub objects_off : (n : ℕ) (b : Bool) → size G T ≡ n → b ≡ lacking S G T → b ≡ false → n ≡ objects S G T
  unfolding objects
  objects_off n b q e h = sym q ∙ sym (ap (λ (t : Bool). cond t (suc (size G T)) (size G T)) (sym e ∙ h))

  pub objects_bound : objects S G T ≤ suc (size G T)
  unfolding objects
  objects_bound = cond_elim (λ n. n ≤ suc (size G T)) (lacking S G T) (λ _. omega arith) (λ _. omega arith)
