-- A state whose facts ascend: a later fact has no lower left word and no lower kind, none stands twice, and those of classes come
-- first.
use Prim.Native.Nat.{ℕ, zero, suc, ◌≤◌, ◌<◌}
use mathlib.Core.Bool.{So, false}
use mathlib.Core.List.{List}
use mathlib.Core.Logic.{◌⊎◌, inl, inr, ⊎_elim}
use mathlib.Core.Path.{◌≡◌, sym, ap, ◌∙◌}
use native.Mathlib.Decide.{dec_lt}
use native.Mathlib.Nat.{le_of_eq, eq-or-lt_of_le, le_of_suc-le-suc, le_trans}
use native.Mathlib.Omega.{arith}
use borrow.Author.Tests.{eqb-true, ltb-true, lt-ltb, not-false}
use lib.Dec.{ltb}
use Rattle.records.specs.declared.schema.Signature.{Signature}
use Rattle.records.specs.Finite.{count}
use Rattle.records.specs.Layout.{state_layout, entries, left_at, right_at, attribute_kinds}
use Rattle.records.specs.StateRecord.{class_facts, kind_at, is_class_fact}
use Rattle.records.specs.StateRefusal.{ascends, refusal_9, refusal_15, AcceptedState}
use Rattle.records.proofs.General.BoolLaws.{or_true_cases, and_map}
use Rattle.records.proofs.General.FiniteLaws.{count_le, count_first}
use Rattle.records.proofs.AcceptedLaws.{passes_9, passes_15, fact_ascends}

module _ (w : List ℕ) (up : refusal_9 w ≡ false) where
  pub ascends_cases : (f : ℕ) → suc f < entries state_layout w
      → (left_at state_layout w f < left_at state_layout w (suc f)) ⊎ ((left_at state_layout w f ≡ left_at state_layout w (suc f)) × (right_at state_layout w f < right_at state_layout w (suc f)))
  unfolding ascends
  ascends_cases f l =
      ⊎_elim (λ t. inl (ltb-true _ _ t)) (λ t. inr (and_map (eqb-true _ _) (ltb-true _ _) t))
      (or_true_cases (ltb (left_at state_layout w f) (left_at state_layout w (suc f))) _ (fact_ascends w up f (omega arith)))

  pub left_rises : (f : ℕ) → suc f < entries state_layout w → left_at state_layout w f ≤ left_at state_layout w (suc f)
  left_rises f l = ⊎_elim (λ t. omega arith) (λ t. le_of_eq t.0) (ascends_cases f l)

  pub left_grows : (f g : ℕ) → f ≤ g → g < entries state_layout w → left_at state_layout w f ≤ left_at state_layout w g
  left_grows f zero h l = le_of_eq (ap (left_at state_layout w) (omega arith))
  left_grows f (suc g) h l =
      ⊎_elim (λ e. le_of_eq (ap (left_at state_layout w) e)) (λ m. le_trans (left_grows f g (le_of_suc-le-suc m) (omega arith)) (left_rises g l))
      (eq-or-lt_of_le h)

  -- a later fact stands after an earlier one, by left and then by right
  fact_grows : (f g : ℕ) → f < g → g < entries state_layout w
      → (left_at state_layout w f < left_at state_layout w g) ⊎ ((left_at state_layout w f ≡ left_at state_layout w g) × (right_at state_layout w f < right_at state_layout w g))
  fact_grows f zero h l = absurd (omega arith)
  fact_grows f (suc g) h l =
      ⊎_elim (λ e. rw e (ascends_cases g l))
      (λ m. ⊎_elim (λ a. inl (omega (arith, a, left_rises g l)))
      (λ a. ⊎_elim (λ b. inl (omega (arith, a.0, b))) (λ b. inr (a.0 ∙ b.0, omega (arith, a.1, b.1))) (ascends_cases g l))
      (fact_grows f g m (omega arith)))
      (eq-or-lt_of_le (le_of_suc-le-suc h))

  -- so no fact stands twice
  pub fact_once : (f g : ℕ) → f < entries state_layout w → g < entries state_layout w
      → left_at state_layout w f ≡ left_at state_layout w g → right_at state_layout w f ≡ right_at state_layout w g → f ≡ g
  fact_once f g h l p q =
      elim (dec_lt f g) [
        | yes m ↦ absurd (⊎_elim (λ a. omega arith) (λ a. omega (arith, a.1)) (fact_grows f g m l))
        | no m ↦
            elim (dec_lt g f) [
              | yes k ↦ absurd (⊎_elim (λ a. omega arith) (λ a. omega (arith, a.1)) (fact_grows g f k h))
              | no k ↦ omega arith
            ]
      ]

  pub kind_grows : (f g : ℕ) → f ≤ g → g < entries state_layout w → kind_at w f ≤ kind_at w g
  unfolding kind_at
  kind_grows f g h l = omega (arith, left_grows f g h l)

  class_before : (f g : ℕ) → f ≤ g → g < entries state_layout w → So (is_class_fact w g) → So (is_class_fact w f)
  unfolding is_class_fact
  class_before f g h l t = lt-ltb (kind_at w f) attribute_kinds (omega (arith, kind_grows f g h l, ltb-true (kind_at w g) attribute_kinds t))

  pub class_first : (i : ℕ) → i < entries state_layout w → is_class_fact w i ≡ ltb i (count (entries state_layout w) (is_class_fact w))
  class_first = count_first (is_class_fact w) (entries state_layout w) class_before

-- The class facts of an accepted state are its first facts, as many as it says.
module _ (s : Signature) (w : List ℕ) (ok : AcceptedState s w) where
  count_right : class_facts w ≡ count (entries state_layout w) (is_class_fact w)
  unfolding refusal_15
  count_right = eqb-true _ _ (not-false _ (passes_15 s w ok))

  pub class_facts_few : class_facts w ≤ entries state_layout w
  class_facts_few = omega (arith, count_right, count_le (is_class_fact w) (entries state_layout w))

  pub class_facts_first : (i : ℕ) → i < entries state_layout w → is_class_fact w i ≡ ltb i (class_facts w)
  class_facts_first i l = class_first w (passes_9 s w ok) i l ∙ ap (ltb i) (sym count_right)
