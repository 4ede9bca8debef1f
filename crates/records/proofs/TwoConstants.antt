-- Document 02, note 5: two different constants at once. A query for just these has an object in some legal state exactly if one
-- of them is loose. The state has an object for each constant and no facts, so that every axiom holds; and the loose one of the
-- two names the other's object.
use Prim.Native.Nat.{ℕ, ◌<◌}
use mathlib.Core.Bool.{So, false, cond, ◌||◌, false≢true}
use mathlib.Core.Logic.{◌↔◌, ◌⊎◌, ⊎_elim}
use mathlib.Core.Path.{◌≡◌, refl, sym, ◌∙◌}
use native.Mathlib.Decide.{ℕ_discrete}
use native.Mathlib.Omega.{arith}
use borrow.Author.Tests.{eqb-true, eq-eqb, ne_eqb}
use lib.Dec.{eqb}
use Rattle.records.specs.declared.schema.Signature.{Signature}
use Rattle.records.specs.declared.schema.Axiom.{Axiom}
use Rattle.records.specs.declared.schema.Axiom.TheVariants.{Subclass, Typing, Necessary, Single, Relates}
use Rattle.records.specs.State.{State, is_loose, differ, clashing, repeats, Names}
use Rattle.records.specs.Schema.{Schema, Holds, Legal}
use Rattle.records.specs.Concept.{constant, both}
use Rattle.records.specs.Subsumption.{Satisfiable}
use Rattle.records.proofs.General.BoolLaws.{false_of, false_of_not, not_both, and_left, and_right, or_true_cases, or_left, or_right}
use Rattle.records.proofs.General.FiniteLaws.{none_any}
use Rattle.records.proofs.NamesLaws.{one_loose}

-- each constant its own object, but a that of b
abbrev sharing : ℕ → ℕ → ℕ → ℕ
sharing a b k = cond (eqb k a) b k

abbrev shared : Signature → ℕ → ℕ → State
shared s a b = record { size = s.constants; members = λ A d. false; pairs = λ P d e. false; names = sharing a b; marks = λ k. 0 }

-- without facts every axiom holds
factless : (s : Signature) (a b : ℕ) (x : Axiom) → Holds (shared s a b) x
factless s a b (Subclass A B) = λ d h m. absurd (false≢true m)
factless s a b (Typing A P B) = λ d h m. absurd (false≢true m)
factless s a b (Necessary A P) = λ d h m. absurd (false≢true m)
factless s a b (Single A P) = λ d h m. absurd (false≢true m)
factless s a b (Relates P A B) = λ d h e k r. absurd (false≢true r)

module _ (S : Schema) (a b : ℕ) (h : a < S.signature.constants) (k : b < S.signature.constants) where
  abbrev s : Signature
  s = S.signature

  module _ (loose : So (is_loose s a)) where
    -- of two constants with one object one is a
    kept_apart : (c d : ℕ) → d < c → So (clashing s (sharing a b) c d) → ⊥
    kept_apart c d l t = pick (ℕ_discrete c a) (ℕ_discrete d a)
      where
        apart : is_loose s c || is_loose s d ≡ false
        apart = false_of_not _ (and_left (differ s c d) _ t)

        same : sharing a b d ≡ sharing a b c
        same = eqb-true _ _ (and_right (differ s c d) _ t)

        pick : Dec (c ≡ a) → Dec (d ≡ a) → ⊥
        pick (yes e) q = not_both _ (or_left (is_loose s c) (is_loose s d) (rw e loose)) apart
        pick (no m) (yes e) = not_both _ (or_right (is_loose s c) (is_loose s d) (rw e loose)) apart
        pick (no m) (no n) = let e : d ≡ c = rw (ne_eqb c a m, ne_eqb d a n) at same in omega arith

    shared_names : Names s (shared s a b)
    unfolding repeats
    shared_names =
        record {
          inside = λ c l. inside (ℕ_discrete c a) l;
          apart = λ c l. none_any (clashing s (sharing a b) c) c λ d m. false_of _ (kept_apart c d m);
        }
      where
        inside : {c : ℕ} → Dec (c ≡ a) → c < s.constants → sharing a b c < s.constants
        inside {c} (yes e) l = rw (eq-eqb c a e) k
        inside {c} (no n) l = rw (ne_eqb c a n) l

    -- b's object is in both
    loose_shares : (a ≡ b → ⊥) → Satisfiable S (both (constant a) (constant b))
    loose_shares n =
        let legal : Legal S (shared s a b) = record { names = shared_names; holds = λ i l. factless s a b (S.axiom_at i) } in
        (shared s a b, legal, (b, k, (rw (eq-eqb a a refl) refl, rw (ne_eqb b a (λ e. n (sym e))) refl)))

pub two_constants : (S : Schema) (a b : ℕ) → a < S.signature.constants → b < S.signature.constants → (a ≡ b → ⊥)
    → Satisfiable S (both (constant a) (constant b)) ↔ (So (is_loose S.signature a) ⊎ So (is_loose S.signature b))
two_constants S a b h k n = (one, ⊎_elim (λ l. loose_shares S a b h k l n) (λ l. turned (loose_shares S b a k h l (λ e. n (sym e)))))
  where
    one : Satisfiable S (both (constant a) (constant b)) → So (is_loose S.signature a) ⊎ So (is_loose S.signature b)
    one (I, legal, (d, l, x)) = or_true_cases _ _ (one_loose S.signature I legal.names a b h k n (sym x.0 ∙ x.1))

    turned : Satisfiable S (both (constant b) (constant a)) → Satisfiable S (both (constant a) (constant b))
    turned (I, legal, (d, l, x)) = (I, legal, (d, l, (x.1, x.0)))
