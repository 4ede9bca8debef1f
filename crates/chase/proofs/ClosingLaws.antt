-- The closing object makes a state legal that holds every axiom but for needed values that are lacking.
-- u is in the classes that any value is put in, and has no pair of its own; so a pair to u breaks nothing.
use Prim.Native.Nat.{ℕ, ◌<◌}
use mathlib.Core.Bool.{Bool, So, ◌&&◌}
use mathlib.Core.Logic.{◌⊎◌, inl, inr, ⊎_elim}
use mathlib.Core.Path.{◌≡◌, refl, subst, sym, ◌∙◌}
use lib.Dec.{eqb}
use borrow.Author.Tests.{eqb-true, eq-eqb}
use Rattle.records.specs.declared.schema.Axiom.{Axiom}
use Rattle.records.specs.declared.schema.Axiom.TheVariants.{Subclass, Typing, Necessary, Single, Relates}
use Rattle.records.specs.State.{State, Member, Related, Every, Some, Names}
use Rattle.records.specs.Schema.{Schema, Holds, Legal}
use Rattle.chase.specs.Closing.{closed}
use Rattle.records.proofs.General.BoolLaws.{or_left, or_right, or_true_cases, and_both, and_parts}

-- F holds the axiom, but for values of Necessary that are lacking, and it goes on to hold where u is those values
abbrev pub Chased : State → (ℕ → ℕ → Bool) → ℕ → Axiom → Type 0
Chased F lack u (Subclass A B) = Holds F (Subclass A B)
Chased F lack u (Typing A P B) = Holds F (Typing A P B) × Member F B u
Chased F lack u (Necessary A P) = Every F λ d. Member F A d → (Some F λ e. Related F P d e) ⊎ So (lack P d)
Chased F lack u (Single A P) = Holds F (Single A P) × (Every F λ d. So (lack P d) → Every F λ e. Related F P d e → ⊥)
Chased F lack u (Relates P A B) = Holds F (Relates P A B) × (Every F λ d. So (lack P d) → Member F A d) × Member F B u

module _ (F : State) (lack : ℕ → ℕ → Bool) (u : ℕ) where
  -- a pair of the closed state is one of F, or leads from an object that lacks it to u
  pub pair_cases : (P d e : ℕ) → Related (closed F lack u) P d e → Related F P d e ⊎ (So (lack P d) × (e ≡ u))
  pair_cases P d e x =
      ⊎_elim inl (λ y. inr ((and_parts (lack P d) (eqb e u) y).0, eqb-true e u (and_parts (lack P d) (eqb e u) y).1))
      (or_true_cases (F.pairs P d e) (lack P d && eqb e u) x)

  pub pair_kept : (P d e : ℕ) → Related F P d e → Related (closed F lack u) P d e
  pair_kept P d e x = or_left (F.pairs P d e) (lack P d && eqb e u) x

  pub pair_closing : (P d : ℕ) → So (lack P d) → Related (closed F lack u) P d u
  pair_closing P d x = or_right (F.pairs P d u) (lack P d && eqb u u) (and_both (lack P d) (eqb u u) x (eq-eqb u u refl))

  closed_holds : ((P d : ℕ) → d < F.size → So (lack P d) → u < F.size) → (x : Axiom) → Chased F lack u x → Holds (closed F lack u) x
  closed_holds has (Subclass A B) c = c
  closed_holds has (Typing A P B) c = λ d hd a e he x.
      ⊎_elim (c.0 d hd a e he) (λ l. subst (Member F B) (sym l.1) c.1) (pair_cases P d e x)
  closed_holds has (Necessary A P) c = λ d hd a.
      ⊎_elim (λ (y : Some F (Related F P d)). (y.0, y.1, pair_kept P d y.0 y.2)) (λ l. (u, has P d hd l, pair_closing P d l))
      (c d hd a)
  closed_holds has (Single A P) c = λ d hd a e he x f hf y.
      ⊎_elim
      (λ ex. ⊎_elim (c.0 d hd a e he ex f hf) (λ l. absurd (c.1 d hd l.0 e he ex)) (pair_cases P d f y))
      (λ k. ⊎_elim (λ fy. absurd (c.1 d hd k.0 f hf fy)) (λ l. k.1 ∙ sym l.1) (pair_cases P d f y))
      (pair_cases P d e x)
  closed_holds has (Relates P A B) c = λ d hd e he x.
      ⊎_elim (c.0 d hd e he) (λ l. (c.1 d hd l.0, subst (Member F B) (sym l.1) c.2)) (pair_cases P d e x)

pub closed_legal : (S : Schema) (F : State) (lack : ℕ → ℕ → Bool) (u : ℕ) → Names S.signature F
    → ((P d : ℕ) → d < F.size → So (lack P d) → u < F.size)
    → ((i : ℕ) → i < S.axioms → Chased F lack u (S.axiom_at i)) → Legal S (closed F lack u)
closed_legal S F lack u names has chased =
    record {
      names = record { inside = names.inside; apart = names.apart };
      holds = λ i h. closed_holds F lack u has (S.axiom_at i) (chased i h);
    }
