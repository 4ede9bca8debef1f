-- Lists of numbers: an entry and its place, and an entry after a store or a map.
use Prim.Native.Nat.{ℕ, zero, suc, ◌<◌}
use native.Mathlib.Omega.{arith}
use native.Mathlib.Decide.{ℕ_discrete}
use mathlib.Core.Path.{◌≡◌, refl, sym, subst}
use mathlib.Core.Logic.{◌≢◌, inl, inr}
use mathlib.Core.List.{List, [], ◌∷◌, map}
use lib.ListN.{length, get_or, set}
use lib.Seq.{get_or-set_same, get_or-set_other}
use Rattle.records.proofs.General.AllLaws.{Mem}

-- an entry after a store at i
pub set_elim : (X : ℕ → Type 0) (l : List ℕ) (i v j : ℕ) → i < length l → (j ≡ i → X v) → (j ≢ i → X (get_or l j 0))
    → X (get_or (set l i v) j 0)
set_elim X l i v j h new old =
    elim (ℕ_discrete j i) [
      | yes e ↦ subst (λ (k : ℕ). X (get_or (set l i v) k 0)) (sym e) (subst X (sym (get_or-set_same l i v 0 h)) (new e))
      | no n ↦ subst X (sym (get_or-set_other l i j v 0 n)) (old n)
    ]

pub get_d_map : (f : ℕ → ℕ) (l : List ℕ) (n : ℕ) → n < length l → get_or (map f l) n 0 ≡ f (get_or l n 0)
get_d_map f [] n h = absurd (omega arith)
get_d_map f (x ∷ l) zero h = refl
get_d_map f (x ∷ l) (suc n) h = get_d_map f l n (omega arith)

-- an entry, and its place
pub at_mem : (l : List ℕ) (i : ℕ) → i < length l → Mem (get_or l i 0) l
at_mem [] i h = absurd (omega arith)
at_mem (x ∷ l) zero h = inl refl
at_mem (x ∷ l) (suc i) h = inr (at_mem l i (omega arith))

pub mem_at : (x : ℕ) (l : List ℕ) → Mem x l → (i : ℕ) × (i < length l) × (get_or l i 0 ≡ x)
mem_at x [] m = absurd m
mem_at x (y ∷ l) (inl e) = (0, omega arith, e)
mem_at x (y ∷ l) (inr m) = let k = mem_at x l m in (suc k.0, omega (arith, k.1), k.2)
