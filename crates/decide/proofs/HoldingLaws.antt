-- What held tells of accepted records, as decide does.
use Prim.Native.Nat.{ℕ}
use mathlib.Core.List.{List}
use mathlib.Core.Bool.{Bool, true, false, not, false≢true}
use mathlib.Core.Path.{◌≡◌, refl, sym}
use Rattle.std.specs.Prelude.{Option, Some, None, is_some}
use Rattle.std.proofs.lemmas.Option.{none-some}
use Rattle.decide.specs.declared.Witness.{Witness}
use Rattle.decide.specs.Holding.{Tells}
use Rattle.decide.specs.Start.{Told}

module _ (schema query view : List ℕ) where
  -- nothing is answered where it is held
  pub told_tells : (answer : Option Witness) (none : Bool) → is_some answer ≡ not none → Told schema query view answer → Tells schema query view none
  told_tells None true e t =
      record {
        is_held = (λ _. t.is_held.0 refl, λ _. refl);
        is_open = (λ x. absurd (false≢true x), λ o. absurd (none-some _ (t.is_open.1 o).1));
      }
  told_tells None false e t = absurd (false≢true e)
  told_tells (Some w) true e t = absurd (false≢true (sym e))
  told_tells (Some w) false e t =
      record {
        is_held = (λ x. absurd (false≢true x), λ h. absurd (none-some w (sym (t.is_held.1 h))));
        is_open = (λ _. t.is_open.0 (w, refl), λ _. refl);
      }
