-- The model's start and clash in the code's terms.
use Prim.Native.Nat.{ℕ, zero, suc, ◌+◌}
use native.Mathlib.Nat.{zero-add}
use native.Mathlib.Omega.{arith}
use mathlib.Core.List.{List, [], ◌∷◌, ◌++◌}
use mathlib.Core.Path.{◌≡◌, refl, sym, ap, ap₂, ◌∙◌}
use lib.ListN.{replicate}
use Rattle.records.proofs.General.Filling.{listed}
use Rattle.chase.specs.Task.{Task, nodes}
use Rattle.records.specs.Helpers.Steps.{concept_steps}
use Rattle.chase.specs.Primary.{Prime, rep_of, numbers_from, begin, primary, clash}
use Rattle.primary.specs.Formed.{prime}
use Rattle.primary.specs.Clash.{clashes_in}

numbers_snoc : (k n : ℕ) → numbers_from k (suc n) ≡ numbers_from k n ++ ((k + n) ∷ [])
numbers_snoc k zero = ap (λ (v : ℕ). v ∷ []) (omega arith)
numbers_snoc k (suc n) =
    let q : suc k + n ≡ k + suc n = omega arith in
    ap (λ (m : List ℕ). k ∷ m) (numbers_snoc (suc k) n ∙ ap (λ (v : ℕ). numbers_from (suc k) n ++ (v ∷ [])) q)

pub listed_numbers : (n : ℕ) → listed (λ i. i) n ≡ numbers_from 0 n
listed_numbers zero = refl
listed_numbers (suc n) =
    ap₂ (λ (m : List ℕ) (v : ℕ). m ++ (v ∷ [])) (listed_numbers n) (sym (zero-add n)) ∙ sym (numbers_snoc 0 n)

-- for callers: the start of a task, and its clash
pub begin_is : (t : Task) (r s : List ℕ) (n : ℕ) → n ≡ nodes t → r ≡ numbers_from 0 n → s ≡ replicate n 0 → prime r s ≡ begin t
unfolding begin
begin_is t r s n h p q =
    ap₂ prime p q ∙ ap (λ (m : ℕ). prime (numbers_from 0 m) (replicate m 0)) h

pub clash_is : (t : Task) (r s : List ℕ) → prime r s ≡ primary t
    → clashes_in t.schema.signature r (suc (concept_steps t.query)) ≡ clash t
unfolding clash rep_of
clash_is t r s e =
    ap (λ (x : Prime). clashes_in t.schema.signature x.reps (suc (concept_steps t.query))) e
