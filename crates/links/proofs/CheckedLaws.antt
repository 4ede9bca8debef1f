-- What the shared check of the two counts of links answers, by the first refusal that applies or by none; and what an accepted check
-- gives its callers: accepted records, and an attribute that is declared.
use Prim.Native.Nat.{ℕ, ◌≤◌, ◌<◌}
use mathlib.Core.List.{List, [], ◌∷◌}
use mathlib.Core.Path.{◌≡◌, refl}
use native.Mathlib.Omega.{arith}
use borrow.Author.Tests.{le-leb, lt-leb}
use Rattle.std.specs.Prelude.{Option, Some, None, Ok, Err}
use Rattle.std.proofs.lemmas.Grind.{common_steps}
use Rattle.records.specs.declared.schema.Signature.{Signature}
use Rattle.records.specs.declared.named.Named.{Named}
use Rattle.records.specs.declared.refusal.Refusal.{Refusal}
use Rattle.records.specs.declared.refusal.Refusal.TheVariants.{Attribute}
use Rattle.records.specs.Layout.{query_steps, no_marks}
use Rattle.records.specs.Marks.{allowing}
use Rattle.records.specs.SchemaRecord.{signature_of}
use Rattle.records.specs.SchemaRefusal.{schema_answer}
use Rattle.records.specs.ConceptRefusal.{concept_answer}
use Rattle.records.specs.StateRefusal.{state_answer}
use Rattle.records.specs.Outcome.{refusal_12, schema_refusal, plain_refusal, state_refusal, attribute_refusal, first_refusal, refused_or, outcome}
use Rattle.records.proofs.AcceptedLaws.{passes_1, signature_few}
use Rattle.records.proofs.OutcomeLaws.{Passed, refused_at, answered_at, answer_passed, declared_by, first_passed, passed_schema, passed_concept, passed_record, passed_attribute}
use Rattle.links.specs.Links.{links_refusals, checked, Countable}

-- Each return after the schema's check: by the first refusal that applies, or by none.
module _ (schema concept state : List ℕ) (P : ℕ) {s : Signature} (d : schema_answer schema ≡ Ok s) where
  pub concept_refused : {r : Refusal} → concept_answer query_steps (allowing no_marks s) concept ≡ Err r → Err r ≡ checked schema concept state P
  concept_refused {r} e = rw (rw (declared_by schema d).2 at e) (refused_at Err _ (schema_refusal schema ∷ []) _ r (answer_passed d, tt))

  module _ {x : Named} (p : concept_answer query_steps (allowing no_marks s) concept ≡ Ok x) where
    read_passed : plain_refusal schema concept ≡ None
    read_passed = answer_passed (rw (declared_by schema d).2 at p)

    pub state_refused : {r : Refusal} → state_answer s state ≡ Err r → Err r ≡ checked schema concept state P
    state_refused {r} e =
        rw (rw (declared_by schema d).0 at e)
        (refused_at Err _ (schema_refusal schema ∷ plain_refusal schema concept ∷ []) _ r (answer_passed d, (read_passed, tt)))

    module _ (t : state_answer s state ≡ Ok tt) where
      judged_passed : state_refusal schema state ≡ None
      judged_passed = answer_passed (rw (declared_by schema d).0 at t)

      pub attribute_refused : s.attributes ≤ P → Err Attribute ≡ checked schema concept state P
      unfolding refusal_12
      attribute_refused h =
          rw (rw (declared_by schema d).0 at (le-leb s.attributes P h))
          (refused_at Err _ (schema_refusal schema ∷ plain_refusal schema concept ∷ state_refusal schema state ∷ []) [] Attribute
          (answer_passed d, (read_passed, (judged_passed, tt))))

      attribute_passed : P < s.attributes → attribute_refusal schema P ≡ None
      unfolding refusal_12
      attribute_passed h = rw (rw (declared_by schema d).0 at (lt-leb s.attributes P h)) refl

      pub signature_answered : P < s.attributes → Ok (signature_of schema) ≡ checked schema concept state P
      signature_answered h =
          answered_at Err _ (links_refusals schema concept state P) (answer_passed d, (read_passed, (judged_passed, (attribute_passed h, tt))))

answered : {A : Type 0} (refusals : List (Option Refusal)) {x y : A} → outcome Err refusals (Ok x) ≡ Ok y → Passed refusals × (y ≡ x)
unfolding outcome
answered refusals {x} {y} e = pick (first_refusal refusals) refl e
  where
    pick : (o : Option Refusal) → first_refusal refusals ≡ o → refused_or Err (Ok x) o ≡ Ok y → Passed refusals × (y ≡ x)
    pick None q e = (first_passed refusals q, cc)
    pick (Some r) q e = absurd (grind (arith, common_steps))

pub countable : (schema concept state : List ℕ) (P : ℕ) {s : Signature} → checked schema concept state P ≡ Ok s → Countable s concept state P
countable schema concept state P e =
    let (p, q) = answered (links_refusals schema concept state P) e in
    rw q
    (record {
      concept_accepted = passed_concept _ _ concept p.1.0;
      state_accepted = passed_record _ state p.1.1.0;
      attribute = omega (arith, passed_attribute schema P p.1.1.1.0, (signature_few schema (passes_1 schema (passed_schema schema p.0))).1);
    })
