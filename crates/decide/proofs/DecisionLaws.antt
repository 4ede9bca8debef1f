-- What is answered to any words: by the first refusal that applies, or by what accepted records are told.
use Prim.Native.Nat.{ℕ, ◌≤◌, ◌<◌}
use mathlib.Core.List.{List, [], ◌∷◌}
use mathlib.Core.Bool.{Bool}
use mathlib.Core.Path.{◌≡◌, refl, sym, ap, ◌∙◌}
use borrow.Author.Tests.{lt-ltb}
use lib.ListN.{length}
use Rattle.std.specs.Prelude.{Option, Some, None, Result, Ok, Err}
use Rattle.std.proofs.lemmas.Option.{none-some}
use Rattle.records.specs.declared.schema.Signature.{Signature}
use Rattle.records.specs.declared.named.Named.{Named}
use Rattle.records.specs.declared.refusal.Refusal.{Refusal}
use Rattle.records.specs.declared.refusal.Refusal.TheVariants.{LentWords}
use Rattle.records.specs.Layout.{query_steps, view_steps, query_marks, no_marks, max_state_words}
use Rattle.records.specs.Marks.{allowing}
use Rattle.records.specs.SchemaRefusal.{schema_answer}
use Rattle.records.specs.ConceptRefusal.{concept_answer}
use Rattle.records.specs.Refusal.{refusal_in}
use Rattle.records.specs.Outcome.{refusal_11, schema_refusal, query_refusal, lent_refusal, first_refusal, refused_or, outcome}
use Rattle.records.specs.Helpers.Triple.{Triple}
use Rattle.records.proofs.OutcomeLaws.{Passed, first_passed, first_among, first_stays, first_none, refused_at, answered_at, answer_passed, lent_passed, declared_by, passed_schema, passed_concept}
use Rattle.decide.specs.declared.Witness.{Witness}
use Rattle.decide.specs.Decision.{decide_refusals, Verdict, Decision}
use Rattle.decide.specs.Holding.{holds_refusals, Tells, Holding, checked}

module _ (schema query view : List ℕ) where
  abbrev refusals : List (Option Refusal)
  refusals = holds_refusals schema query view

  -- what the check answers is the first refusal
  refusal_checked : first_refusal refusals ≡ refusal_in (checked schema query view)
  unfolding outcome
  refusal_checked = pick (first_refusal refusals)
    where
      pick : (o : Option Refusal) → o ≡ refusal_in (refused_or {A = Result (Unit {0}) Refusal} Err (Ok tt) o)
      pick None = refl
      pick (Some r) = refl

  -- each return after the schema's check: by the first refusal that applies, or by none
  module _ {s : Signature} (a : schema_answer schema ≡ Ok s) where
    pub query_refused : {r : Refusal} → concept_answer query_steps (allowing query_marks s) query ≡ Err r → Err r ≡ checked schema query view
    query_refused {r} e = rw (rw (declared_by schema a).1 at e) (refused_at Err _ (schema_refusal schema ∷ []) _ r (answer_passed a, tt))

    module _ {x : Named} (q : concept_answer query_steps (allowing query_marks s) query ≡ Ok x) where
      query_passed : query_refusal schema query ≡ None
      query_passed = answer_passed (rw (declared_by schema a).1 at q)

      pub view_refused : {r : Refusal} → concept_answer view_steps (allowing no_marks s) view ≡ Err r → Err r ≡ checked schema query view
      view_refused {r} e =
          rw (rw (declared_by schema a).2 at e)
          (refused_at Err _ (schema_refusal schema ∷ query_refusal schema query ∷ []) [] r (answer_passed a, (query_passed, tt)))

      pub none_refused : {y : Named} → concept_answer view_steps (allowing no_marks s) view ≡ Ok y → Ok tt ≡ checked schema query view
      none_refused v = answered_at Err _ refusals (answer_passed a, (query_passed, (answer_passed (rw (declared_by schema a).2 at v), tt)))

  module _ {r : Refusal} (e : checked schema query view ≡ Err r) where
    first_is : first_refusal refusals ≡ Some r
    first_is = refusal_checked ∙ ap refusal_in e

    pub holds_refused : Holding schema query view (Err r)
    holds_refused = let first = first_is in record { refused = λ q f. cc; decided = λ n. absurd (none-some r (sym n ∙ first_is)) }

    pub decide_refused : (lent : List ℕ) → Decision schema query view lent (Err r) lent
    decide_refused lent =
        let first = first_stays refusals (lent_refusal max_state_words lent ∷ []) first_is in
        record { refused = λ q f. (cc, refl); decided = λ n. absurd (none-some r (sym n ∙ first)) }

  module _ (e : checked schema query view ≡ Ok tt) where
    none_is : first_refusal refusals ≡ None
    none_is = refusal_checked ∙ ap refusal_in e

    passed : Passed refusals
    passed = first_passed refusals none_is

    pub accepted : Triple schema query view
    accepted =
        record {
          schema_accepted = passed_schema schema passed.0;
          query_accepted = passed_concept _ _ query passed.1.0;
          view_accepted = passed_concept _ _ view passed.1.1.0;
        }

    pub holds_decided : {held : Bool} → Tells schema query view held → Holding schema query view (Ok held)
    holds_decided {held} t = record { refused = λ r f. absurd (none-some r (sym none_is ∙ f)); decided = λ n. (held, refl, t) }

    module _ (lent : List ℕ) where
      first_lent : first_refusal (decide_refusals schema query view lent) ≡ first_refusal (lent_refusal max_state_words lent ∷ [])
      first_lent = first_among refusals (lent_refusal max_state_words lent ∷ []) passed

      pub decide_short : length lent < max_state_words → Decision schema query view lent (Err LentWords) lent
      unfolding refusal_11 first_refusal
      decide_short h =
          let first : first_refusal (decide_refusals schema query view lent) ≡ Some LentWords =
          first_lent ∙ rw (lt-ltb (length lent) max_state_words h) refl in
          record { refused = λ q f. (cc, refl); decided = λ n. absurd (none-some LentWords (sym n ∙ first)) }

      pub decide_decided : max_state_words ≤ length lent → {v : Option Witness} {words : List ℕ} → Verdict schema query view lent v words
          → Decision schema query view lent (Ok v) words
      decide_decided h {v} z =
          let none = first_lent ∙ first_none _ (lent_passed max_state_words lent h, tt) in
          record { refused = λ r f. absurd (none-some r (sym none ∙ f)); decided = λ n. (v, refl, z) }
