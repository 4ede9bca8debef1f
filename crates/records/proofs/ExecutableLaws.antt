-- The tests of Executable.antt say what the types of Semantics.antt and Schema.antt say.
-- A test and its type are built alike: and, implies, equal, and the searches for every and some object. Each of these
-- keeps the agreement of its parts (the laws …-iff), so the proofs follow the definitions case by case.
use Prim.Native.Nat.{ℕ, ◌<◌}
use mathlib.Core.Bool.{Bool, true, false, So, not, Bool-discrete}
use mathlib.Core.Logic.Dec
use mathlib.Core.Logic.Iff
use mathlib.Core.Logic.{◌↔◌}
use mathlib.Core.Path.{◌≡◌, refl}
use lib.Dec.{eqb}
use borrow.Author.Tests.{eqb-true, eq-eqb, not-false}
use Rattle.records.specs.declared.schema.Axiom.{Axiom}
use Rattle.records.specs.declared.schema.Axiom.TheVariants.{Subclass, Typing, Necessary, Single, Relates}
use Rattle.records.specs.State.{State}
use Rattle.records.specs.Schema.{Schema, Holds}
use Rattle.records.specs.Concept.{Direction, forward, backward, Concept, class, everything, constant, both, reached, common, mark, Path, empty, step}
use Rattle.records.specs.Semantics.{Steps, In, Leads}
use Rattle.records.specs.Executable.{steps_to, is_in, leads_to, implies, holds, first_broken}
use Rattle.records.proofs.General.BoolLaws.{and_iff, and_three_iff, not_both, false_of_not}
use Rattle.records.proofs.General.FiniteLaws.{all_iff, any_iff, least_passes, least_first, least_none}

pub eqb_iff : (m n : ℕ) → So (eqb m n) ↔ (m ≡ n)
eqb_iff m n = (eqb-true m n, eq-eqb m n)

pub implies_iff : {a b : Bool} {B : Type 0} → So b ↔ B → So (implies a b) ↔ (So a → B)
implies_iff {a = true} h = (λ e p. h.0 e, λ g. h.1 (g refl))
implies_iff {a = false} h = (λ e p. absurd (not_both false p refl), λ g. refl)

module _ (I : State) where
  -- Concepts and paths.

  steps_iff : (r : Direction) (P d e : ℕ) → So (steps_to I r P d e) ↔ Steps I r P d e
  steps_iff forward P d e = Iff.rfl
  steps_iff backward P d e = Iff.rfl

  mutual
    pub is_in_iff : (C : Concept) (d : ℕ) → So (is_in I C d) ↔ In I C d
    is_in_iff (class A) d = Iff.rfl
    is_in_iff everything d = (λ e. tt, λ u. refl)
    is_in_iff (constant a) d = eqb_iff d (I.names a)
    is_in_iff (both C D) d = and_iff (is_in_iff C d) (is_in_iff D d)
    is_in_iff (reached p) d = any_iff λ e. leads_to_iff p d e
    is_in_iff (common p q) d = any_iff λ e. and_iff (leads_to_iff p d e) (leads_to_iff q d e)
    is_in_iff (mark k) d = eqb_iff d (I.marks k)

    pub leads_to_iff : (p : Path) (d e : ℕ) → So (leads_to I p d e) ↔ Leads I p d e
    leads_to_iff empty d e = eqb_iff d e
    leads_to_iff (step p r P C) d e = any_iff λ c. and_three_iff (leads_to_iff p d c) (steps_iff r P c e) (is_in_iff C e)

  pub in_dec : (C : Concept) (d : ℕ) → Dec (In I C d)
  in_dec C d = Dec.of_iff (is_in_iff C d) (Bool-discrete (is_in I C d) true)

  -- Axioms.

  pub holds_iff : (x : Axiom) → So (holds I x) ↔ Holds I x
  holds_iff (Subclass A B) = all_iff λ d. implies_iff Iff.rfl
  holds_iff (Typing A P B) = all_iff λ d. implies_iff (all_iff λ e. implies_iff Iff.rfl)
  holds_iff (Necessary A P) = all_iff λ d. implies_iff (any_iff λ e. Iff.rfl)
  holds_iff (Single A P) = all_iff λ d. implies_iff (all_iff λ e. implies_iff (all_iff λ f. implies_iff (eqb_iff e f)))
  holds_iff (Relates P A B) = all_iff λ d. all_iff λ e. implies_iff (and_iff Iff.rfl Iff.rfl)

  holds_of : (x : Axiom) → not (holds I x) ≡ false → Holds I x
  holds_of x e = (holds_iff x).0 (not-false (holds I x) e)

  holds_not : (x : Axiom) → So (not (holds I x)) → Holds I x → ⊥
  holds_not x e h = not_both (holds I x) ((holds_iff x).1 h) (false_of_not (holds I x) e)

-- The first broken axiom: none is broken, or this one is, and in either case no earlier one.

module _ (S : Schema) (I : State) where
  pub first_broken_none : first_broken S I ≡ S.axioms → (i : ℕ) → i < S.axioms → Holds I (S.axiom_at i)
  first_broken_none e i l = holds_of I (S.axiom_at i) (least_none _ S.axioms e i l)

  pub first_broken_at : first_broken S I < S.axioms → Holds I (S.axiom_at (first_broken S I)) → ⊥
  first_broken_at l = holds_not I (S.axiom_at (first_broken S I)) (least_passes _ S.axioms l)

  pub first_broken_before : (i : ℕ) → i < first_broken S I → Holds I (S.axiom_at i)
  first_broken_before i l = holds_of I (S.axiom_at i) (least_first _ S.axioms i l)
