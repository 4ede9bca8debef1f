-- An accepted state gives each declared constant its object, and those that are to differ different ones.
use Prim.Native.Nat.{ℕ, ◌<◌}
use mathlib.Core.Bool.{not}
use mathlib.Core.List.{List}
use native.Mathlib.Omega.{arith}
use lib.Dec.{eqb}
use Rattle.records.specs.declared.schema.Signature.{Signature}
use Rattle.records.specs.Finite.{any, count}
use Rattle.records.specs.Layout.{state_layout, entries, max_marks}
use Rattle.records.specs.State.{Names}
use Rattle.records.specs.StateRecord.{objects, state_of}
use Rattle.records.specs.StateRefusal.{names_at, misnames, mismarks, refusal_10, AcceptedState}
use Rattle.records.proofs.General.BoolLaws.{or_false_left, or_false_right}
use Rattle.records.proofs.General.FiniteLaws.{any_found, any_none, count_found}
use Rattle.records.proofs.AcceptedLaws.{passes_8, passes_10, fact_faultless, constant_once}
use Rattle.records.proofs.FactLaws.{name_is, fact_object}

module _ (s : Signature) (w : List ℕ) (fine : AcceptedState s w) where
  named : (a : ℕ) → a < s.constants → (state_of w).names a < objects w
  named a h =
      let once = constant_once s w (passes_10 s w fine) a h in
      let (i, l, e) = any_found (names_at w a) (entries state_layout w) (count_found (names_at w a) (entries state_layout w) (omega (arith, once))) in
      let inside = fact_object s w i (fact_faultless s w (passes_8 s w fine) i l) in
      omega (arith, name_is w a once i l e inside, inside)

  pub accepted_names : Names s (state_of w)
  unfolding state_of refusal_10
  accepted_names =
      record {
        inside = named;
        apart = λ a h.
            or_false_right (not (eqb (count (entries state_layout w) (names_at w a)) 1)) _
            (any_none (misnames s w) s.constants (or_false_left _ (any max_marks (mismarks s w)) (passes_10 s w fine)) a h);
      }
