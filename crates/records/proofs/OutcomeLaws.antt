-- The first refusal: what one that is there is, and what follows where there is none; and what each check that does not refuse tells.
use Prim.Native.Nat.{ℕ, ◌≤◌, ◌<◌}
use mathlib.Core.List.{List, [], ◌∷◌, ◌++◌}
use mathlib.Core.Bool.{Bool, false, true, cond}
use mathlib.Core.Path.{◌≡◌, refl, sym, ap}
use lib.ListN.{length}
use native.Mathlib.Omega.{arith}
use borrow.Author.Tests.{le-ltb, ltb-false, leb-false}
use Rattle.std.specs.Prelude.{Option, Some, None, Result, Ok, Err}
use Rattle.std.proofs.lemmas.Option.{none-some}
use Rattle.records.specs.declared.schema.Signature.{Signature}
use Rattle.records.specs.declared.refusal.Refusal.{Refusal}
use Rattle.records.specs.declared.named.Named.{Named}
use Rattle.records.specs.declared.refusal.Refusal.TheVariants.{SchemaShape, SchemaAxiom, ConceptShape, ConceptToken, ConceptPile, ConceptSteps, StateShape, StateFact, StateOrder, StateNames, LentWords, Attribute, CatalogueLayout, SchemaLoose, StateClassFacts}
use Rattle.records.specs.Refusal.{number, refusal_in, returned}
use Rattle.records.specs.SchemaRefusal.{schema_answer, AcceptedSchema}
use Rattle.records.specs.Named.{named_in}
use Rattle.records.specs.ConceptRefusal.{concept_answer, AcceptedConcept}
use Rattle.records.specs.StateRefusal.{state_answer, AcceptedState}
use Rattle.records.specs.Layout.{query_marks, no_marks}
use Rattle.records.specs.Marks.{allowing}
use Rattle.records.specs.Outcome.{refusal_11, refusal_12, schema_refusal, query_signature, lent_refusal, attribute_refusal, first_refusal, outcome}
use Rattle.records.specs.SchemaRecord.{signature_of}
use Rattle.records.proofs.AcceptedLaws.{faultless_schema, faultless_concept, faultless_state}

-- Refusals in checking order.

-- none is there
abbrev pub Passed : List (Option Refusal) → Type 0
Passed [] = Unit {0}
Passed (r ∷ l) = (r ≡ None) × Passed l

pub first_at : (passed rest : List (Option Refusal)) (r : Refusal) → Passed passed → first_refusal (passed ++ Some r ∷ rest) ≡ Some r
unfolding first_refusal
first_at [] rest r p = refl
first_at (m ∷ passed) rest r p = rw p.0 (first_at passed rest r p.1)

pub first_among : (passed refusals : List (Option Refusal)) → Passed passed → first_refusal (passed ++ refusals) ≡ first_refusal refusals
unfolding first_refusal
first_among [] refusals p = refl
first_among (m ∷ passed) refusals p = rw p.0 (first_among passed refusals p.1)

-- a refusal stays the first, whatever comes after it
pub first_stays : (l m : List (Option Refusal)) {r : Refusal} → first_refusal l ≡ Some r → first_refusal (l ++ m) ≡ Some r
unfolding first_refusal
first_stays [] m {r} e = absurd (none-some r e)
first_stays (None ∷ l) m e = first_stays l m e
first_stays (Some x ∷ l) m e = e

pub first_none : (refusals : List (Option Refusal)) → Passed refusals → first_refusal refusals ≡ None
unfolding first_refusal
first_none [] p = refl
first_none (r ∷ l) p = rw p.0 (first_none l p.1)

pub first_passed : (refusals : List (Option Refusal)) → first_refusal refusals ≡ None → Passed refusals
unfolding first_refusal
first_passed [] e = tt
first_passed (None ∷ l) e = (refl, first_passed l e)
first_passed (Some r ∷ l) e = absurd (none-some r (sym e))

module _ {A : Type 0} (refused : Refusal → A) (answer : A) where
  -- a refusal after checks that do not refuse
  pub refused_at : (passed rest : List (Option Refusal)) (r : Refusal) → Passed passed → refused r ≡ outcome refused (passed ++ Some r ∷ rest) answer
  unfolding outcome
  refused_at passed rest r p = rw (first_at passed rest r p)

  pub answered_at : (refusals : List (Option Refusal)) → Passed refusals → answer ≡ outcome refused refusals answer
  unfolding outcome
  answered_at refusals p = rw (first_none refusals p)

  pub outcome_refused : (refusals : List (Option Refusal)) {r : Refusal} → first_refusal refusals ≡ Some r → outcome refused refusals answer ≡ refused r
  unfolding outcome
  outcome_refused refusals e = rw e

  pub outcome_answered : (refusals : List (Option Refusal)) → first_refusal refusals ≡ None → outcome refused refusals answer ≡ answer
  unfolding outcome
  outcome_answered refusals e = rw e

  -- what holds of every refusal, and of the answer where nothing is refused
  pub outcome_is : (X : A → Type 0) (refusals : List (Option Refusal)) → ((r : Refusal) → X (refused r)) → (Passed refusals → X answer) → X (outcome refused refusals answer)
  unfolding outcome
  outcome_is X refusals r a = pick (first_refusal refusals) refl
    where
      pick : (o : Option Refusal) → first_refusal refusals ≡ o → X (outcome refused refusals answer)
      pick None e = rw e (a (first_passed refusals e))
      pick (Some x) e = rw e (r x)

-- the last check of a call, by its answer
pub last_answer : {A : Type 0} (a : Result A Refusal) (x : A) → ((y : A) → a ≡ Ok y → y ≡ x) → a ≡ outcome Err (refusal_in a ∷ []) (Ok x)
unfolding outcome first_refusal
last_answer (Ok y) x h = ap Ok (h y refl)
last_answer (Err r) x h = refl

-- No refusal has the number 0: a call that returns 0 is answered.
pub answered_zero : {A : Type 0} (a : Result A Refusal) → returned a ≡ 0 → (x : A) × (a ≡ Ok x)
answered_zero (Ok x) e = (x, refl)
answered_zero (Err r) e = absurd (pick r e)
  where
    pick : (r : Refusal) → number r ≡ 0 → ⊥
    pick SchemaShape e = omega arith
    pick SchemaAxiom e = omega arith
    pick ConceptShape e = omega arith
    pick ConceptToken e = omega arith
    pick ConceptPile e = omega arith
    pick ConceptSteps e = omega arith
    pick StateShape e = omega arith
    pick StateFact e = omega arith
    pick StateOrder e = omega arith
    pick StateNames e = omega arith
    pick LentWords e = omega arith
    pick Attribute e = omega arith
    pick CatalogueLayout e = omega arith
    pick SchemaLoose e = omega arith
    pick StateClassFacts e = omega arith

-- Nothing is refused just where the record is accepted.

-- an answer that is no refusal
pub answer_passed : {A : Type 0} {a : Result A Refusal} {x : A} → a ≡ Ok x → refusal_in a ≡ None
answer_passed e = ap refusal_in e

module _ (schema : List ℕ) where
  pub passed_schema : schema_refusal schema ≡ None → AcceptedSchema schema
  unfolding schema_answer
  passed_schema e = let z = faultless_schema schema e in rw (z.0, z.1, z.2)

  -- what an accepted schema's answer holds
  pub schema_signature : {s : Signature} → schema_answer schema ≡ Ok s → (s ≡ signature_of schema) × AcceptedSchema schema
  schema_signature e = let ok = passed_schema (answer_passed e) in (cc, ok)

  -- an accepted schema's signature allows no mark: what it allows in a query and in a view
  pub declared_by : {s : Signature} → schema_answer schema ≡ Ok s
      → (s ≡ signature_of schema) × (allowing query_marks s ≡ query_signature schema) × (allowing no_marks s ≡ signature_of schema)
  unfolding signature_of
  declared_by e = let same = (schema_signature e).0 in (same, rw same refl, rw same refl)

module _ (limit : ℕ) (s : Signature) (w : List ℕ) where
  pub passed_concept : refusal_in (concept_answer limit s w) ≡ None → AcceptedConcept limit s w
  unfolding concept_answer
  passed_concept e = let z = faultless_concept limit s w e in rw (z.0, z.1, z.2, z.3)

  -- what an accepted concept's answer holds
  pub concept_named : {x : Named} → concept_answer limit s w ≡ Ok x → (x ≡ named_in w) × AcceptedConcept limit s w
  concept_named e = let ok = passed_concept (answer_passed e) in (cc, ok)

module _ (s : Signature) (state : List ℕ) where
  pub passed_record : refusal_in (state_answer s state) ≡ None → AcceptedState s state
  unfolding state_answer
  passed_record e = let z = faultless_state s state e in rw (z.0, z.1, z.2, z.3, z.4)

-- a test that turns a call back does not apply where nothing is refused
cond_none : (r : Refusal) (b : Bool) → cond b (Some r) None ≡ None → b ≡ false
cond_none r true e = absurd (none-some r (sym e))
cond_none r false e = refl

pub passed_attribute : (schema : List ℕ) (P : ℕ) → attribute_refusal schema P ≡ None → P < (signature_of schema).attributes
unfolding refusal_12
passed_attribute schema P e = leb-false (signature_of schema).attributes P (cond_none _ _ e)

pub lent_passed : (needed : ℕ) (lent : List ℕ) → needed ≤ length lent → lent_refusal needed lent ≡ None
unfolding refusal_11
lent_passed needed lent h = rw (le-ltb (length lent) needed h)

pub passed_lent : (needed : ℕ) (lent : List ℕ) → lent_refusal needed lent ≡ None → needed ≤ length lent
unfolding refusal_11
passed_lent needed lent e = ltb-false (length lent) needed (cond_none _ _ e)
