-- What the entries' answers mean (specs/Exact.antt), for any words: select_exact, legal_exact and counterexample_exact. First of
-- accepted records: legal means Legal, an object that is answered is the lowest Counterexample, and a flag tells Selects.
use Prim.Native.Nat.{ℕ, ◌<◌}
use mathlib.Core.List.{List}
use mathlib.Core.Bool.{Bool, true, false, So, cond, not, ◌&&◌, false≢true}
use mathlib.Core.Logic.{◌↔◌, ⊎_elim}
use mathlib.Core.Path.{◌≡◌, refl, sym, ap, subst, ◌∙◌}
use native.Mathlib.Omega.{arith}
use native.Mathlib.Decide.{dec_lt}
use native.Mathlib.Nat.{eq-or-lt_of_le}
use lib.Dec.{eqb, ltb}
use borrow.Author.Tests.{eq-eqb, eqb-true, ne_eqb, lt-ltb, ltb-true}
use Rattle.std.specs.Prelude.{Option, Some, None, Ok, Err}
use Rattle.std.proofs.lemmas.Option.{none-some}
use Rattle.records.specs.declared.refusal.Refusal.{Refusal}
use Rattle.records.specs.State.{State, Names}
use Rattle.records.specs.Schema.{Schema, Legal}
use Rattle.records.specs.SchemaRecord.{signature_of, schema_of}
use Rattle.records.specs.ConceptRecord.{concept_of}
use Rattle.records.specs.Concept.{Concept}
use Rattle.records.specs.Semantics.{In}
use Rattle.records.specs.Subsumption.{Counterexample}
use Rattle.records.specs.Executable.{is_in, holds, first_broken, broken}
use Rattle.records.specs.StateRecord.{objects, state_of}
use Rattle.records.specs.Marks.{used_marks}
use Rattle.records.specs.Outcome.{choice_signature}
use Rattle.records.proofs.General.BoolLaws.{false_of, not_of_false}
use Rattle.records.proofs.General.FiniteLaws.{least_le, least_passes, least_first, least_is}
use Rattle.records.proofs.ExecutableLaws.{is_in_iff, holds_iff, first_broken_none, first_broken_at, first_broken_before}
use Rattle.records.proofs.NamesLaws.{names_allowed}
use Rattle.records.proofs.OutcomeLaws.{first_passed, outcome_refused, outcome_answered, passed_record, passed_lent}
use Rattle.judge.specs.Select.{SelectOutcome, selection, refused_with, select_refusals, select_outcome}
use Rattle.judge.specs.Counterexample.{separates, lowest, finding, counterexample_refusals, counterexample_answer}
use Rattle.judge.specs.LegalState.{legal_refusals, legal_answer}
use Rattle.judge.specs.Exact.{Selected, FirstBroken, Judged, Lowest, Found, SelectExact, LegalExact, CounterexampleExact}
use Rattle.records.proofs.AcceptedNames.{accepted_names}
use Rattle.judge.proofs.SelectedLaws.{selection_selected}

module _ (S : Schema) (I : State) (names : Names S.signature I) where
  -- no axiom is broken in a legal state, and a state with no broken axiom is legal
  pub unbroken_legal : first_broken S I ≡ S.axioms → Legal S I
  unbroken_legal e = record { names = names; holds = first_broken_none S I e }

  pub legal_unbroken : Legal S I → first_broken S I ≡ S.axioms
  legal_unbroken l =
      least_is (λ i. not (holds I (S.axiom_at i))) S.axioms S.axioms (omega arith) (λ h. absurd (omega arith))
      (λ i h. ap not ((holds_iff I (S.axiom_at i)).1 (l.holds i h)))

  pub judged_exact : (broken S I ≡ None) ↔ Legal S I
  unfolding broken
  judged_exact = (λ e. pick (eqb (first_broken S I) S.axioms) refl e, λ l. rw (eq-eqb _ _ (legal_unbroken l)))
    where
      pick : (b : Bool) → eqb (first_broken S I) S.axioms ≡ b → cond b None (Some (first_broken S I)) ≡ None → Legal S I
      pick true q e = unbroken_legal (eqb-true _ _ q)
      pick false q e = absurd (none-some _ (sym e))

  module _ (query view : Concept) where
    separates_is : (d : ℕ) → So (separates I query view d) → In I query d × (In I view d → ⊥)
    separates_is d h = pick (is_in I query d) refl (is_in I view d) refl h
      where
        pick : (a : Bool) → is_in I query d ≡ a → (b : Bool) → is_in I view d ≡ b → So (a && not b) → In I query d × (In I view d → ⊥)
        pick true e false f h = ((is_in_iff I query d).0 e, λ x. false≢true (sym f ∙ (is_in_iff I view d).1 x))
        pick true e true f h = absurd (false≢true h)
        pick false e b f h = absurd (false≢true h)

    separates_of : (d : ℕ) → Counterexample S query view I d → So (separates I query view d)
    separates_of d c = pick (is_in I view d) refl
      where
        pick : (b : Bool) → is_in I view d ≡ b → So (separates I query view d)
        pick true f = absurd (c.outside ((is_in_iff I view d).0 f))
        pick false f = rw ((is_in_iff I query d).1 c.selected.1, f)

    -- the object that is answered is a counterexample, and no lower one is
    pub found_exact : (d : ℕ) → finding S I query view ≡ Some d
        → Counterexample S query view I d × ((e : ℕ) → e < d → Counterexample S query view I e → ⊥)
    unfolding finding
    found_exact d q = pick (eqb (first_broken S I) S.axioms) refl (ltb (lowest I query view) I.size) refl q
      where
        pick : (a : Bool) → eqb (first_broken S I) S.axioms ≡ a → (b : Bool) → ltb (lowest I query view) I.size ≡ b
            → cond (a && b) (Some (lowest I query view)) None ≡ Some d
            → Counterexample S query view I d × ((e : ℕ) → e < d → Counterexample S query view I e → ⊥)
        pick true x true y q =
            let same : lowest I query view ≡ d = cc in
            let inside = ltb-true (lowest I query view) I.size y in
            let z = separates_is (lowest I query view) (least_passes (separates I query view) I.size inside) in
            subst (λ (d : ℕ). Counterexample S query view I d × ((e : ℕ) → e < d → Counterexample S query view I e → ⊥)) same (
              record { legal = unbroken_legal (eqb-true _ _ x); selected = (inside, z.0); outside = z.1 },
              λ e h c. false≢true (sym (least_first (separates I query view) I.size e h) ∙ separates_of e c),
            )
        pick true x false y q = absurd (none-some d q)
        pick false x b y q = absurd (none-some d q)

    -- where no object is answered there is no counterexample
    pub none_exact : finding S I query view ≡ None → (d : ℕ) → Counterexample S query view I d → ⊥
    unfolding finding
    none_exact q d c =
        pick (eqb (first_broken S I) S.axioms) (eq-eqb _ _ (legal_unbroken c.legal)) (ltb (lowest I query view) I.size)
        (lt-ltb _ _ low) q
      where
        low : lowest I query view < I.size
        low =
            elim (dec_lt (lowest I query view) I.size) [
              | yes h ↦ h
              | no h ↦
                  absurd
                  (false≢true
                  (sym (least_first (separates I query view) I.size d (omega (arith, c.selected.0))) ∙ separates_of d c))
            ]

        pick : (a : Bool) → So a → (b : Bool) → So b → cond (a && b) (Some (lowest I query view)) None ≡ None → ⊥
        pick true x true y q = none-some _ (sym q)
        pick true x false y q = false≢true y
        pick false x b y q = false≢true x

    lowest_one : (d e : ℕ) → Lowest S query view I d → Lowest S query view I e → d ≡ e
    lowest_one d e x y =
        elim (dec_lt d e) [
          | yes l ↦ absurd (y.lower d l x.found)
          | no l ↦
              elim (dec_lt e d) [
                | yes m ↦ absurd (x.lower e m y.found)
                | no m ↦ omega arith
              ]
        ]

    found_lowest : (d : ℕ) → finding S I query view ≡ Some d → Lowest S query view I d
    found_lowest d e = let x = found_exact d e in record { found = x.0; lower = x.1 }

    pub finding_found : Found S query view I (finding S I query view)
    finding_found = record { is_no = (none_exact, none (finding S I query view) refl); is_yes = λ d. (found_lowest d, yes d (finding S I query view) refl) }
      where
        none : (o : Option ℕ) → finding S I query view ≡ o → ((d : ℕ) → Counterexample S query view I d → ⊥) → o ≡ None
        none None e n = refl
        none (Some d) e n = absurd (n d (found_lowest d e).found)

        yes : (d : ℕ) (o : Option ℕ) → finding S I query view ≡ o → Lowest S query view I d → o ≡ Some d
        yes d None e l = absurd (none_exact e d l.found)
        yes d (Some x) e l = ap Some (lowest_one x d (found_lowest x e) l)

  -- the first broken axiom
  first_is : (k : ℕ) → FirstBroken S I k → first_broken S I ≡ k
  first_is k f =
      least_is (λ i. not (holds I (S.axiom_at i))) S.axioms k (omega (arith, f.inside))
      (λ h. not_of_false _ (false_of (holds I (S.axiom_at k)) (λ t. f.broken ((holds_iff I (S.axiom_at k)).0 t))))
      (λ i h. ap not ((holds_iff I (S.axiom_at i)).1 (f.earlier i h)))

  broken_first : first_broken S I < S.axioms → FirstBroken S I (first_broken S I)
  broken_first l = record { inside = l; broken = first_broken_at S I l; earlier = first_broken_before S I }

  pub broken_judged : Judged S I (broken S I)
  unfolding broken
  broken_judged = record { is_legal = judged_exact; is_broken = λ k. (told k (eqb (first_broken S I) S.axioms) refl, λ f. first k f) }
    where
      told : (k : ℕ) (b : Bool) → eqb (first_broken S I) S.axioms ≡ b → cond b None (Some (first_broken S I)) ≡ Some k → FirstBroken S I k
      told k true q e = absurd (none-some k e)
      told k false q e =
          let same : first_broken S I ≡ k = cc in
          subst (FirstBroken S I) same
          (broken_first (⊎_elim (λ z. absurd (false≢true (sym q ∙ eq-eqb _ _ z))) (λ l. l) (eq-or-lt_of_le (least_le _ S.axioms))))

      first : (k : ℕ) → FirstBroken S I k → cond (eqb (first_broken S I) S.axioms) None (Some (first_broken S I)) ≡ Some k
      first k f = rw (ne_eqb (first_broken S I) S.axioms (λ z. omega (arith, z, first_is k f, f.inside)), first_is k f)

-- To any words.

module _ (schema concept state lent : List ℕ) where
  abbrev refusals : List (Option Refusal)
  refusals = select_refusals schema concept state lent

  abbrev flagged : SelectOutcome
  flagged = selection (state_of state) (concept_of concept) lent

  pub select_exact : SelectExact schema concept state lent (select_outcome schema concept state lent).answer (select_outcome schema concept state lent).words
  unfolding state_of
  select_exact =
      record {
        refused = λ r n.
            let e = outcome_refused (refused_with lent) flagged refusals n in
            (ap (λ (o : SelectOutcome). o.answer) e, ap (λ (o : SelectOutcome). o.words) e);
        answered = λ z.
            subst (λ (o : SelectOutcome). Selected (state_of state) (concept_of concept) lent o.answer o.words)
            (sym (outcome_answered (refused_with lent) flagged refusals z))
            (selection_selected (state_of state) (concept_of concept) lent (passed_lent (objects state) lent (first_passed refusals z).1.1.1.0));
      }

module _ (schema state : List ℕ) where
  pub legal_exact : LegalExact schema state (legal_answer schema state)
  unfolding schema_of
  legal_exact =
      let place = broken (schema_of schema) (state_of state) in
      record {
        refused = λ r. outcome_refused Err (Ok place) (legal_refusals schema state);
        answered = λ z.
            let p = first_passed (legal_refusals schema state) z in (
              place,
              outcome_answered Err (Ok place) (legal_refusals schema state) z,
              broken_judged (schema_of schema) (state_of state) (accepted_names (signature_of schema) state (passed_record (signature_of schema) state p.1.0)),
            );
      }

module _ (schema query view state : List ℕ) where
  pub counterexample_exact : CounterexampleExact schema query view state (counterexample_answer schema query view state)
  unfolding schema_of
  counterexample_exact =
      let object = finding (schema_of schema) (state_of state) (concept_of query) (concept_of view) in
      let refusals = counterexample_refusals schema query view state in
      record {
        refused = λ r. outcome_refused Err (Ok object) refusals;
        answered = λ z. (
          object,
          outcome_answered Err (Ok object) refusals z,
          finding_found (schema_of schema) (state_of state)
              (names_allowed (used_marks query) (signature_of schema).marks (signature_of schema) (state_of state)
              (accepted_names (choice_signature schema query) state (passed_record (choice_signature schema query) state (first_passed refusals z).1.1.1.0)))
              (concept_of query) (concept_of view),
        );
      }
