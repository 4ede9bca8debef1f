-- A mark's node is one at which the mark stands, where there is one (anchor_all), and otherwise the start.
use Prim.Native.Nat.{ℕ}
use mathlib.Core.Bool.{So, cond}
use mathlib.Core.List.{List, [], ◌∷◌}
use mathlib.Core.Path.{sym, subst}
use Rattle.records.specs.Helpers.Loops.{each}
use Rattle.chase.specs.Facts.{Equation}
use Rattle.chase.specs.Task.{stands, anchor}
use Rattle.records.proofs.General.AllLaws.{All, all_map}
use Rattle.records.proofs.General.BoolLaws.{cond_elim}

-- what holds of d and of each node at which the mark stands
pub anchor_is : (Z : ℕ → Type 0) (k : ℕ) (l : List Equation) (d : ℕ) → All (λ f. So (stands k f) → Z f.left) l → Z d → Z (anchor d l k)
unfolding each
anchor_is Z k [] d h z = z
anchor_is Z k (f ∷ l) d h z = anchor_is Z k l _ h.1 (cond_elim Z (stands k f) h.0 (λ _. z))

-- what holds of each node at which it stands holds of its node, if it stands at all
pub anchor_all : (Z : ℕ → ℕ → Type 0) (l : List Equation) (d : ℕ → ℕ) → All (λ f. (k : ℕ) → So (stands k f) → Z k f.left) l
    → All (λ f. (k : ℕ) → So (stands k f) → Z k (anchor (d k) l k)) l
unfolding each
anchor_all Z [] d h = tt
anchor_all Z (f ∷ l) d h = (
  λ k s.
      anchor_is (Z k) k l _ (all_map (λ e z. z k) l h.1)
      (subst (λ b. Z k (cond b f.left (d k))) (sym s) (h.0 k s)),
  anchor_all Z l (λ k. cond (stands k f) f.left (d k)) h.1,
)
