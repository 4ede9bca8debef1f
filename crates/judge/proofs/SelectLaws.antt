-- What select answers: by the first refusal that applies, or on accepted records by the set that evaluation gives.
use Prim.Native.Nat.{ℕ, zero, suc, ◌≤◌, ◌<◌}
use mathlib.Core.List.{List, [], ◌∷◌, ◌++◌}
use mathlib.Core.Bool.{Bool}
use mathlib.Core.Path.{◌≡◌, refl}
use native.Mathlib.Omega.{arith}
use borrow.Author.Tests.{lt-ltb}
use lib.ListN.{length, drop}
use Rattle.std.specs.Prelude.{Some, None, Ok, Err}
use Rattle.records.specs.Finite.{count}
use Rattle.records.specs.declared.schema.Signature.{Signature}
use Rattle.records.specs.declared.named.Named.{Named}
use Rattle.records.specs.declared.refusal.Refusal.{Refusal}
use Rattle.records.specs.declared.refusal.Refusal.TheVariants.{LentWords}
use Rattle.records.specs.Layout.{object_part, query_steps, no_marks}
use Rattle.records.specs.State.{State}
use Rattle.records.specs.Concept.{Concept}
use Rattle.records.specs.Executable.{is_in}
use Rattle.records.specs.Marks.{allowing}
use Rattle.records.specs.ConceptRecord.{concept_of}
use Rattle.records.specs.StateRecord.{objects, state_of}
use Rattle.records.specs.SchemaRefusal.{schema_answer}
use Rattle.records.specs.ConceptRefusal.{concept_answer}
use Rattle.records.specs.StateRefusal.{state_answer}
use Rattle.records.specs.Outcome.{refusal_11, schema_refusal, plain_refusal, state_refusal, lent_refusal}
use Rattle.records.proofs.OutcomeLaws.{refused_at, answered_at, answer_passed, lent_passed, declared_by}
use Rattle.records.proofs.General.FiniteLaws.{count_same}
use Rattle.index.specs.BitSet.{bit_at}
use Rattle.rows.specs.Selection.{Selection}
use Rattle.judge.specs.Select.{flags, selection, refused_with, select_refusals, select_outcome}
use Rattle.evaluate.proofs.EvaluationLaws.{selected_bit}

flags_same : (f g : ℕ → Bool) (n : ℕ) → ((i : ℕ) → i < n → f i ≡ g i) → flags f n ≡ flags g n
unfolding flags
flags_same f g zero h = refl
flags_same f g (suc n) h = rw (h n (omega arith), flags_same f g n (λ i l. h i (omega arith)))

-- the flags of the set are those of the concept
pub selection_is : (I : State) (C : Concept) (lent ws : List ℕ) → Selection I C ws → I.size ≤ object_part → record { answer = Ok (count I.size (bit_at ws)); words = flags (bit_at ws) I.size ++ drop I.size lent } ≡ selection I C lent
unfolding selection
selection_is I C lent ws z few =
    let same = selected_bit I C ws z few in
    rw (count_same (bit_at ws) (is_in I C) I.size same, flags_same (bit_at ws) (is_in I C) I.size same)

lent_short : (needed : ℕ) (lent : List ℕ) → length lent < needed → lent_refusal needed lent ≡ Some LentWords
unfolding refusal_11
lent_short needed lent h = rw (lt-ltb (length lent) needed h) refl

-- Each return after the schema's check: by the first refusal that applies, or by what the checks accept.
module _ (schema concept state lent : List ℕ) {s : Signature} (d : schema_answer schema ≡ Ok s) where
  pub concept_refused : {r : Refusal} → concept_answer query_steps (allowing no_marks s) concept ≡ Err r
      → refused_with lent r ≡ select_outcome schema concept state lent
  concept_refused {r} e = rw (rw (declared_by schema d).2 at e) (refused_at (refused_with lent) _ (schema_refusal schema ∷ []) _ r (answer_passed d, tt))

  module _ {x : Named} (p : concept_answer query_steps (allowing no_marks s) concept ≡ Ok x) where
    read_passed : plain_refusal schema concept ≡ None
    read_passed = answer_passed (rw (declared_by schema d).2 at p)

    pub state_refused : {r : Refusal} → state_answer s state ≡ Err r → refused_with lent r ≡ select_outcome schema concept state lent
    state_refused {r} e =
        rw (rw (declared_by schema d).0 at e)
        (refused_at (refused_with lent) _ (schema_refusal schema ∷ plain_refusal schema concept ∷ []) _ r (answer_passed d, (read_passed, tt)))

    module _ (t : state_answer s state ≡ Ok tt) where
      judged_passed : state_refusal schema state ≡ None
      judged_passed = answer_passed (rw (declared_by schema d).0 at t)

      pub lent_refused : length lent < objects state → refused_with lent LentWords ≡ select_outcome schema concept state lent
      lent_refused h =
          rw (lent_short (objects state) lent h)
          (refused_at (refused_with lent) _ (schema_refusal schema ∷ plain_refusal schema concept ∷ state_refusal schema state ∷ []) [] LentWords
          (answer_passed d, (read_passed, (judged_passed, tt))))

      pub selection_answered : objects state ≤ length lent → selection (state_of state) (concept_of concept) lent ≡ select_outcome schema concept state lent
      selection_answered room =
          answered_at (refused_with lent) _ (select_refusals schema concept state lent)
          (answer_passed d, (read_passed, (judged_passed, (lent_passed (objects state) lent room, tt))))
