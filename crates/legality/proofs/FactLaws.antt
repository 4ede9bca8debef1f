-- The facts of an accepted state that have one left word stand next to each other, since the facts ascend.
use Prim.Native.Nat.{ℕ, zero, suc, ◌-◌, ◌<◌}
use mathlib.Core.Bool.{So, false≢true}
use mathlib.Core.List.{List}
use mathlib.Core.Logic.{⊎_elim}
use mathlib.Core.Path.{◌≡◌}
use native.Mathlib.Omega.{arith}
use borrow.Author.Tests.{eq-eqb, eqb-true, lt-ltb}
use lib.Dec.{ltb}
use Rattle.records.specs.declared.schema.Signature.{Signature}
use Rattle.records.specs.Layout.{state_layout, entries, left_at, right_at}
use Rattle.records.specs.StateRecord.{kind_at, object_at}
use Rattle.records.specs.StateRefusal.{AcceptedState}
use Rattle.records.proofs.General.BoolLaws.{and_right, and_both}
use Rattle.records.proofs.AcceptedLaws.{passes_9}
use Rattle.records.proofs.OrderLaws.{ascends_cases, left_rises, left_grows}
use Rattle.legality.specs.Breaks.{repeats_left}

module _ (s : Signature) (w : List ℕ) (ok : AcceptedState s w) where
  -- the later of two facts of one left word has that word right before it
  pub repeats_of : (f g : ℕ) → f < g → g < entries state_layout w → kind_at w f ≡ kind_at w g → object_at w f ≡ object_at w g → So (repeats_left w g)
  unfolding kind_at object_at
  repeats_of f zero m l p q = absurd (omega arith)
  repeats_of f (suc g) m l p q =
      let e : suc g - 1 ≡ g = omega arith in
      and_both (ltb 0 (suc g)) _ (lt-ltb 0 (suc g) (omega arith))
      (rw e (eq-eqb (left_at state_layout w g) (left_at state_layout w (suc g)) (omega (arith, left_grows w (passes_9 s w ok) f g (omega arith) (omega arith), left_rises w (passes_9 s w ok) g l))))

  -- and there stands another value
  pub repeats_other : (f : ℕ) → f < entries state_layout w → So (repeats_left w f)
      → (g : ℕ) × (g < entries state_layout w) × ((kind_at w g ≡ kind_at w f) × (object_at w g ≡ object_at w f) × (right_at state_layout w g < right_at state_layout w f))
  unfolding kind_at object_at
  repeats_other zero l t = absurd (false≢true t)
  repeats_other (suc g) l t =
      let b : suc g - 1 ≡ g = omega arith in
      let e : left_at state_layout w g ≡ left_at state_layout w (suc g) = eqb-true _ _ (rw b at (and_right (ltb 0 (suc g)) _ t)) in
      (g, omega arith, (omega arith, omega arith, ⊎_elim (λ p. absurd (omega arith)) (λ p. p.1) (ascends_cases w (passes_9 s w ok) g l)))
