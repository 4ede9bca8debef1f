-- The catalogue record: where its views stand, its first refusal, and what an accepted one tells of each view.
use Prim.Native.Nat.{ℕ, zero, suc, ◌+◌, ◌≤◌, ◌<◌}
use mathlib.Core.List.{List, [], ◌∷◌, ◌++◌, append_assoc}
use mathlib.Core.Bool.{Bool, true, false, So, cond, not}
use mathlib.Core.Path.{◌≡◌, refl, sym, ap}
use native.Mathlib.Decide.{ℕ_discrete}
use native.Mathlib.Numerals.{add-one}
use native.Mathlib.Omega.{arith}
use borrow.Author.Tests.{eqb-true, ltb-false, not-false}
use lib.Dec.{eqb, ltb}
use lib.ListN.{length}
use Rattle.std.specs.Prelude.{Option, Some, None, Ok, Err}
use Rattle.std.proofs.lemmas.Option.{none-some}
use Rattle.records.specs.declared.schema.Signature.{Signature}
use Rattle.records.specs.declared.refusal.Refusal.{Refusal}
use Rattle.records.specs.declared.refusal.Refusal.TheVariants as refusal
use Rattle.records.specs.Finite.{sum}
use Rattle.records.specs.Layout.{view_steps, max_views, no_marks}
use Rattle.records.specs.Marks.{allowing}
use Rattle.records.specs.Refusal.{refusal_in}
use Rattle.records.specs.ConceptRefusal.{concept_answer, AcceptedConcept}
use Rattle.records.specs.CatalogueRecord.{views, length_at, start_at, view_at}
use Rattle.records.specs.CatalogueRefusal.{refusal_13, layout_refusal, view_refusals, catalogue_answer, AcceptedCatalogue}
use Rattle.records.specs.Shape.{outside}
use Rattle.records.proofs.General.BoolLaws.{or_false}
use Rattle.records.proofs.General.SumLaws.{sum_turn}
use Rattle.records.proofs.OutcomeLaws.{Passed, first_at, first_none, outcome_refused, outcome_answered, outcome_is, passed_concept}

module _ (w : List ℕ) where
  pub start_first : start_at w 0 ≡ 1 + views w
  unfolding start_at sum
  start_first = omega arith

  pub start_more : (i : ℕ) → start_at w (i + 1) ≡ start_at w i + length_at w i
  unfolding start_at
  start_more i = omega (arith, sum_turn (length_at w) i refl refl)

  start_mono : (i n : ℕ) → i ≤ n → start_at w i ≤ start_at w n
  start_mono i zero h = let e : i ≡ 0 = omega arith in rw e (omega arith)
  start_mono i (suc n) h =
      elim (ℕ_discrete i (suc n)) [
        | yes e ↦ rw e (omega arith)
        | no d ↦ omega (arith, start_mono i n (omega arith), rw (add-one n) at (start_more n))
      ]

  -- 13 is by the count, and then by the length
  pub bad_count : So (outside 1 max_views (views w)) → true ≡ refusal_13 w
  unfolding refusal_13
  bad_count e = rw e refl

  pub bad_length : outside 1 max_views (views w) ≡ false → not (eqb (length w) (start_at w (views w))) ≡ refusal_13 w
  unfolding refusal_13
  bad_length e = rw e refl

  -- what is not refused by 13
  pub record Laid : Type 0 where
    pub some : 1 ≤ views w
    pub few : views w ≤ max_views
    pub ends : length w ≡ start_at w (views w)

  pub laid_of : refusal_13 w ≡ false → Laid
  unfolding refusal_13
  laid_of e =
      let z = or_false (outside 1 max_views (views w)) _ e in
      let n = or_false (ltb (views w) 1) (ltb max_views (views w)) z.0 in
      record {
        some = ltb-false (views w) 1 n.0;
        few = ltb-false max_views (views w) n.1;
        ends = eqb-true (length w) (start_at w (views w)) (not-false _ z.1);
      }

  -- each view stands inside
  pub view_inside : refusal_13 w ≡ false → (i : ℕ) → i < views w → (i ≤ max_views) × (start_at w i + length_at w i ≤ length w)
  view_inside e i h =
      let l = laid_of e in
      (omega (arith, l.few), omega (arith, l.ends, start_more i, start_mono (i + 1) (views w) (omega arith)))

-- Refusals of which none is there: in two parts, and one among them.
passed_append : (l m : List (Option Refusal)) → Passed l → Passed m → Passed (l ++ m)
passed_append [] m p q = q
passed_append (r ∷ l) m p q = (p.0, passed_append l m p.1 q)

passed_at : (l : List (Option Refusal)) (r : Option Refusal) (m : List (Option Refusal)) → Passed (l ++ r ∷ m) → r ≡ None
passed_at [] r m p = p.0
passed_at (x ∷ l) r m p = passed_at l r m p.1

-- the refusal of one view
abbrev view_refusal : Signature → List ℕ → ℕ → Option Refusal
view_refusal s w i = refusal_in (concept_answer view_steps (allowing no_marks s) (view_at w i))

module _ (s : Signature) (w : List ℕ) where
  pub views_none : Passed (view_refusals s w 0)
  unfolding view_refusals
  views_none = tt

  pub views_more : (i : ℕ) → Passed (view_refusals s w i) → view_refusal s w i ≡ None → Passed (view_refusals s w (suc i))
  unfolding view_refusals
  views_more i p e = passed_append (view_refusals s w i) (view_refusal s w i ∷ []) p (e, tt)

  -- the refusal of view i stands after those of the views before it
  views_split : (n i : ℕ) → i < n → (rest : List (Option Refusal)) × (view_refusals s w n ≡ view_refusals s w i ++ view_refusal s w i ∷ rest)
  unfolding view_refusals
  views_split zero i h = absurd (omega arith)
  views_split (suc n) i h =
      elim (ℕ_discrete i n) [
        | yes e ↦ ([], rw e refl)
        | no d ↦
            let (rest, e) = views_split n i (omega arith) in
            (rest ++ (view_refusal s w n ∷ []), rw e (append_assoc (view_refusals s w i) (view_refusal s w i ∷ rest) (view_refusal s w n ∷ [])))
      ]

  -- The check returns at the first refusal that applies.
  pub catalogue_13 : So (refusal_13 w) → catalogue_answer s w ≡ Err refusal.CatalogueLayout
  unfolding catalogue_answer
  catalogue_13 e =
      outcome_refused Err (Ok tt) (layout_refusal w ∷ view_refusals s w (views w))
      (rw e (first_at [] (view_refusals s w (views w)) refusal.CatalogueLayout tt))

  pub catalogue_view : refusal_13 w ≡ false → (i : ℕ) → i < views w → Passed (view_refusals s w i) → (r : Refusal) → view_refusal s w i ≡ Some r
      → catalogue_answer s w ≡ Err r
  unfolding catalogue_answer
  catalogue_view e i h p r z =
      let (rest, q) = views_split (views w) i h in
      outcome_refused Err (Ok tt) (layout_refusal w ∷ view_refusals s w (views w))
      (rw (e, q, z) (first_at (None ∷ view_refusals s w i) rest r (refl, p)))

  pub catalogue_none : refusal_13 w ≡ false → Passed (view_refusals s w (views w)) → catalogue_answer s w ≡ Ok tt
  unfolding catalogue_answer
  catalogue_none e p =
      outcome_answered Err (Ok tt) (layout_refusal w ∷ view_refusals s w (views w))
      (rw e (first_none (None ∷ view_refusals s w (views w)) (refl, p)))

  -- What an accepted catalogue tells: its layout, and that its views are accepted.
  nothing_refused : AcceptedCatalogue s w → Passed (layout_refusal w ∷ view_refusals s w (views w))
  unfolding catalogue_answer
  nothing_refused a =
      outcome_is Err (Ok tt) (λ x. refusal_in x ≡ None → Passed (layout_refusal w ∷ view_refusals s w (views w)))
      (layout_refusal w ∷ view_refusals s w (views w)) (λ r e. absurd (none-some r (sym e))) (λ p e. p) (ap refusal_in a)

  pub accepted_layout : AcceptedCatalogue s w → refusal_13 w ≡ false
  accepted_layout a = pick (refusal_13 w) (nothing_refused a).0
    where
      pick : (b : Bool) → cond b (Some refusal.CatalogueLayout) None ≡ None → b ≡ false
      pick true e = absurd (none-some refusal.CatalogueLayout (sym e))
      pick false e = refl

  pub accepted_view : AcceptedCatalogue s w → (i : ℕ) → i < views w → AcceptedConcept view_steps (allowing no_marks s) (view_at w i)
  accepted_view a i h =
      let (rest, q) = views_split (views w) i h in
      passed_concept view_steps (allowing no_marks s) (view_at w i) (passed_at (view_refusals s w i) (view_refusal s w i) rest (rw q at (nothing_refused a).1))
