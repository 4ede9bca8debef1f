-- Consequences of a query: what holds of its nodes under every assignment into a legal state that fits it.
-- An object that the query selects has such an assignment (fitting).
use Prim.Native.Nat.{ℕ, zero, suc, ◌+◌, ◌-◌, ◌<◌}
use native.Mathlib.Omega.{arith}
use mathlib.Core.Path.{◌≡◌, sym, ap, subst, ◌∙◌}
use mathlib.Core.Bool.{Bool, cond}
use lib.Dec.{ltb}
use borrow.Author.Tests.{lt-ltb, le-ltb, ltb-true}
use Rattle.records.specs.State.{State}
use Rattle.records.specs.Schema.{Legal}
use Rattle.records.specs.Semantics.{In}
use Rattle.records.specs.Helpers.Steps.{concept_steps}
use Rattle.chase.specs.Task.{Task, WellFormed, signature, start_node, asked}
use Rattle.records.proofs.General.BoolLaws.{cond_elim}
use Rattle.chase.proofs.FactsLaws.{Meets, Assigns}
use Rattle.chase.proofs.Witness.{Chosen, witness}

-- in the legal state I, g gives each node an object, as the query asks
pub record Fits (t : Task) (I : State) (g : ℕ → ℕ) : Type 0 where
  pub legal : Legal t.schema I
  pub assigns : Assigns (signature t) (suc (concept_steps t.query)) I g
  pub meets : Meets I g (asked t)

abbrev pub Follows : Task → (State → (ℕ → ℕ) → Type 0) → Type 0
Follows t X = (I : State) (g : ℕ → ℕ) → Fits t I g → X I g

-- d at each node but the declared constants, which have their objects
module _ (first known d : ℕ) (names : ℕ → ℕ) where
  basis : ℕ → ℕ
  basis n = cond (ltb n first) d (cond (ltb (n - first) known) (names (n - first)) d)

  basis_low : (n : ℕ) → n < first → basis n ≡ d
  unfolding basis
  basis_low n h = ap (λ (b : Bool). cond b d (cond (ltb (n - first) known) (names (n - first)) d)) (lt-ltb n first h)

  basis_constant : (a : ℕ) → a < known → basis (first + a) ≡ names a
  unfolding basis
  basis_constant a h =
      let q : first + a - first ≡ a = omega arith in
      ap (λ (b : Bool). cond b d (cond (ltb (first + a - first) known) (names (first + a - first)) d))
      (le-ltb (first + a) first (omega arith))
      ∙ ap (λ (i : ℕ). cond (ltb i known) (names i) d) q ∙ ap (λ (b : Bool). cond b (names a) d) (lt-ltb a known h)

  basis_inside : (size : ℕ) → ((a : ℕ) → a < known → names a < size) → d < size → (n : ℕ) → basis n < size
  unfolding basis
  basis_inside size inside h n =
      cond_elim (λ i. i < size) (ltb n first) (λ _. h)
      (λ _. cond_elim (λ i. i < size) (ltb (n - first) known) (λ b. inside (n - first) (ltb-true (n - first) known b)) (λ _. h))

pub fitting : (t : Task) → WellFormed t → (I : State) → Legal t.schema I → (d : ℕ) → d < I.size → In I t.query d
    → (g : ℕ → ℕ) × Fits t I g × (g (start_node t) ≡ d)
unfolding asked
fitting t formed I legal d h x =
    (w.assign, record { legal = legal; assigns = w.assigns; meets = w.meets }, w.above s (omega arith) ∙ at_start)
  where
    s : ℕ
    s = concept_steps t.query

    known : ℕ
    known = t.schema.signature.constants

    g : ℕ → ℕ
    g = basis (suc s) known d I.names

    at_start : g s ≡ d
    at_start = basis_low (suc s) known d I.names s (omega arith)

    w : Chosen (signature t) (suc s) I g (zero + s) (asked t)
    w =
        witness (signature t) (suc s) I t.query s zero g
        (record {
          inside = basis_inside (suc s) known d I.names I.size legal.names.inside h;
          constants = basis_constant (suc s) known d I.names;
        })
        formed.query (omega arith) (omega arith) (subst (In I t.query) (sym at_start) x)
