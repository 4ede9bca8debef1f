-- Constants that are to differ (repeats of State.antt): what is apart by one function is apart by another that tells at least as
-- much; of two that do not differ one is loose; and the allowed marks say nothing of constants.
use Prim.Native.Nat.{ℕ, ◌<◌}
use mathlib.Core.Bool.{So, false, ◌||◌, or_comm, false≢true}
use mathlib.Core.Path.{◌≡◌, sym, ◌∙◌}
use native.Mathlib.Decide.{dec_lt}
use native.Mathlib.Omega.{arith}
use borrow.Author.Tests.{eqb-true, eq-eqb, not-false}
use Rattle.records.specs.declared.schema.Signature.{Signature}
use Rattle.records.specs.Marks.{allowing}
use Rattle.records.specs.State.{State, is_loose, differ, clashing, repeats, Names}
use Rattle.records.proofs.General.BoolLaws.{false_of, and_both, and_parts}
use Rattle.records.proofs.General.FiniteLaws.{any_none, none_any}

-- f tells all that g tells
pub repeats_none : (s : Signature) (f g : ℕ → ℕ) (a : ℕ) → ((b : ℕ) → b < a → f b ≡ f a → g b ≡ g a) → repeats s g a ≡ false
    → repeats s f a ≡ false
unfolding repeats
repeats_none s f g a told none =
    none_any (clashing s f a) a λ b l. false_of _ λ t.
    let (apart, same) = and_parts (differ s a b) _ t in
    false≢true (sym (any_none (clashing s g a) a none b l) ∙ and_both (differ s a b) _ apart (eq-eqb _ _ (told b l (eqb-true _ _ same))))

-- constants are named alike whichever marks a signature allows
pub names_allowed : (m n : ℕ) (s : Signature) (I : State) → Names (allowing m s) I → Names (allowing n s) I
unfolding repeats
names_allowed m n s I ok = record { inside = ok.inside; apart = ok.apart }

-- of two different constants with the same object one is loose
module _ (s : Signature) (I : State) (ok : Names s I) where
  later : (a b : ℕ) → a < s.constants → b < a → I.names b ≡ I.names a → So (is_loose s a || is_loose s b)
  unfolding repeats
  later a b h l e = not-false _ (false_of _ λ apart.
      false≢true (sym (any_none (clashing s I.names a) a (ok.apart a h) b l) ∙ and_both (differ s a b) _ apart (eq-eqb _ _ e)))

  pub one_loose : (a b : ℕ) → a < s.constants → b < s.constants → (a ≡ b → ⊥) → I.names a ≡ I.names b → So (is_loose s a || is_loose s b)
  one_loose a b h k n e =
      elim (dec_lt a b) [
        | yes l ↦ rw (or_comm (is_loose s a) (is_loose s b)) (later b a k l e)
        | no m ↦ later a b h (omega arith) (sym e)
      ]
