-- The answer of counterexample: by the first refusal that applies, or on accepted records by the first broken axiom and the two sets
-- that evaluation gives.
use Prim.Native.Nat.{ℕ, ◌≤◌}
use mathlib.Core.List.{List, [], ◌∷◌}
use mathlib.Core.Bool.{Bool, true, false, false≢true, cond, not, ◌&&◌}
use mathlib.Core.Path.{◌≡◌, refl, sym, ap₂}
use lib.Dec.{eqb, ltb}
use Rattle.std.specs.Prelude.{Some, None, Ok, Err}
use Rattle.std.specs.Option.{is_some}
use Rattle.records.specs.declared.schema.Signature.{Signature}
use Rattle.records.specs.declared.named.Named.{Named}
use Rattle.records.specs.declared.refusal.Refusal.{Refusal}
use Rattle.records.specs.Finite.{any, least}
use Rattle.records.specs.Layout.{object_part, query_steps, view_steps, query_marks, no_marks}
use Rattle.records.specs.State.{State}
use Rattle.records.specs.Schema.{Schema}
use Rattle.records.specs.Concept.{Concept}
use Rattle.records.specs.Executable.{first_broken, broken}
use Rattle.records.specs.SchemaRecord.{signature_of, schema_of}
use Rattle.records.specs.ConceptRecord.{concept_of}
use Rattle.records.specs.StateRecord.{state_of}
use Rattle.records.specs.SchemaRefusal.{schema_answer}
use Rattle.records.specs.ConceptRefusal.{concept_answer}
use Rattle.records.specs.StateRefusal.{state_answer}
use Rattle.records.specs.Marks.{allowing, used_marks}
use Rattle.records.specs.Outcome.{schema_refusal, query_refusal, view_refusal}
use Rattle.records.proofs.General.FiniteLaws.{least_same}
use Rattle.records.proofs.General.RangeLaws.{any_least}
use Rattle.records.proofs.MarkLaws.{accepted_used, accepted_allowing}
use Rattle.records.proofs.OutcomeLaws.{refused_at, answered_at, answer_passed, schema_signature, concept_named, declared_by}
use Rattle.rows.specs.Selection.{Selection}
use Rattle.judge.specs.Counterexample.{separates, lowest, finding, counterexample_refusals, counterexample_answer, apart, Accepted}
use Rattle.evaluate.proofs.EvaluationLaws.{selected_bit}

-- the search over the two sets is that over the concepts
pub lowest_is : (I : State) (query view : Concept) (inside outside : List ℕ) → Selection I query inside → Selection I view outside → I.size ≤ object_part
    → least I.size (apart inside outside) ≡ lowest I query view
lowest_is I query view inside outside q v few =
    least_same (apart inside outside) (separates I query view) I.size
    (λ d h. ap₂ (λ (a b : Bool). a && not b) (selected_bit I query inside q few d h) (selected_bit I view outside v few d h))

module _ (S : Schema) (I : State) (query view : Concept) where
  pub find_illegal : is_some (broken S I) ≡ true → None ≡ finding S I query view
  unfolding broken finding
  find_illegal e = pick (eqb (first_broken S I) S.axioms) e
    where
      pick : (b : Bool) → is_some (cond b None (Some (first_broken S I))) ≡ true
          → None ≡ cond (b && ltb (lowest I query view) I.size) (Some (lowest I query view)) None
      pick true e = absurd (false≢true e)
      pick false e = refl

  pub find_legal : (inside outside : List ℕ) → Selection I query inside → Selection I view outside → I.size ≤ object_part → is_some (broken S I) ≡ false
      → cond (any I.size (apart inside outside)) (Some (least I.size (apart inside outside))) None ≡ finding S I query view
  unfolding broken finding
  find_legal inside outside q v few e =
      rw (any_least (apart inside outside) I.size, lowest_is I query view inside outside q v few) (pick (eqb (first_broken S I) S.axioms) e)
    where
      pick : (b : Bool) → is_some (cond b None (Some (first_broken S I))) ≡ false
          → cond (ltb (lowest I query view) I.size) (Some (lowest I query view)) None
          ≡ cond (b && ltb (lowest I query view) I.size) (Some (lowest I query view)) None
      pick true e = refl
      pick false e = absurd (false≢true (sym e))

-- what the checks accept
pub accepted : {schema query view state : List ℕ} {s : Signature} {x y : Named} → schema_answer schema ≡ Ok s
    → concept_answer query_steps (allowing query_marks s) query ≡ Ok x → concept_answer view_steps (allowing no_marks s) view ≡ Ok y
    → state_answer (allowing (used_marks query) s) state ≡ Ok tt → Accepted (allowing (used_marks query) s) schema query view state
accepted {schema} {query} {view} {state} {s} d q v t =
    let same = declared_by schema d in
    let asked = concept_named query_steps (allowing query_marks (signature_of schema)) query (rw same.0 at q) in
    let stored = concept_named view_steps (signature_of schema) view (rw same.2 at v) in
    record {
      schema_accepted = (schema_signature schema d).1;
      query_accepted = rw same.0 (accepted_used query_steps (signature_of schema) query_marks query asked.1);
      view_accepted = rw same.0 (accepted_allowing view_steps schema view (used_marks query) stored.1);
      state_accepted = t;
    }

-- Each return after the schema's check: by the first refusal that applies, or by what the checks accept.
module _ (schema query view state : List ℕ) {s : Signature} (d : schema_answer schema ≡ Ok s) where
  pub query_refused : {r : Refusal} → concept_answer query_steps (allowing query_marks s) query ≡ Err r
      → Err r ≡ counterexample_answer schema query view state
  query_refused {r} e = rw (rw (declared_by schema d).1 at e) (refused_at Err _ (schema_refusal schema ∷ []) _ r (answer_passed d, tt))

  module _ {x : Named} (q : concept_answer query_steps (allowing query_marks s) query ≡ Ok x) where
    query_passed : query_refusal schema query ≡ None
    query_passed = answer_passed (rw (declared_by schema d).1 at q)

    pub view_refused : {r : Refusal} → concept_answer view_steps (allowing no_marks s) view ≡ Err r → Err r ≡ counterexample_answer schema query view state
    view_refused {r} e =
        rw (rw (declared_by schema d).2 at e)
        (refused_at Err _ (schema_refusal schema ∷ query_refusal schema query ∷ []) _ r (answer_passed d, (query_passed, tt)))

    module _ {y : Named} (v : concept_answer view_steps (allowing no_marks s) view ≡ Ok y) where
      view_passed : view_refusal schema view ≡ None
      view_passed = answer_passed (rw (declared_by schema d).2 at v)

      pub state_refused : {r : Refusal} → state_answer (allowing (used_marks query) s) state ≡ Err r
          → Err r ≡ counterexample_answer schema query view state
      state_refused {r} e =
          rw (rw (declared_by schema d).0 at e)
          (refused_at Err _ (schema_refusal schema ∷ query_refusal schema query ∷ view_refusal schema view ∷ []) [] r
          (answer_passed d, (query_passed, (view_passed, tt))))

      pub finding_answered : state_answer (allowing (used_marks query) s) state ≡ Ok tt
          → Ok (finding (schema_of schema) (state_of state) (concept_of query) (concept_of view)) ≡ counterexample_answer schema query view state
      finding_answered t =
          answered_at Err _ (counterexample_refusals schema query view state)
          (answer_passed d, (query_passed, (view_passed, (answer_passed (rw (declared_by schema d).0 at t), tt))))
