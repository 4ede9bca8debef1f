-- What an accepted record gives its readers. Each law takes the answer of the check, or the one refusal that it rests on.
use Prim.Native.Nat.{ℕ, zero, ◌+◌, ◌-◌, ◌≤◌, ◌<◌}
use mathlib.Core.Bool.{Bool, false, So, cond, not, ◌&&◌, ◌||◌}
use mathlib.Core.List.{List}
use mathlib.Core.Path.{◌≡◌, refl, sym, ap}
use native.Mathlib.Omega.{arith}
use lib.Dec.{eqb, ltb}
use borrow.Author.Tests.{ltb-true, ltb-false, le-ltb, eqb-true, not-false}
use Rattle.records.specs.declared.schema.Signature.{Signature}
use Rattle.records.specs.declared.schema.Axiom.{Axiom}
use Rattle.records.specs.declared.schema.Axiom.TheVariants.{Subclass, Typing, Necessary, Single, Relates}
use Rattle.records.specs.declared.token.Token.{Token}
use Rattle.records.specs.declared.token.Token.TheVariants.{Class, Everything, Constant, Both, Empty, Forward, Backward, Reached, Common, Mark}
use Rattle.records.specs.declared.refusal.Refusal.{Refusal}
use Rattle.records.specs.declared.refusal.Refusal.TheVariants as refusal
use Rattle.std.specs.Prelude.{None, Result, Err}
use Rattle.std.proofs.lemmas.Option.{none-some}
use Rattle.records.specs.Refusal.{refusal_in}
use Rattle.records.specs.Finite.{any, count}
use Rattle.records.specs.Layout.{schema_layout, concept_layout, state_layout, size_at, entries, left_at, right_at, max_classes, max_attributes, max_constants, max_axioms, max_marks, max_tokens, max_objects, max_facts}
use Rattle.records.specs.SchemaRecord.{signature_of, schema_of, axiom_kind}
use Rattle.records.specs.Concept.{Direction, forward, backward}
use Rattle.records.specs.ConceptRecord.{token_at, concept_of}
use Rattle.records.specs.StateRecord.{objects, state_of}
use Rattle.records.specs.Marks.{allows}
use Rattle.records.specs.State.{repeats}
use Rattle.records.specs.Shape.{misshapen, outside}
use Rattle.records.specs.SchemaRefusal.{oversized, declares, faulty_axiom, refusal_1, refusal_2, refusal_14, schema_answer, AcceptedSchema}
use Rattle.records.specs.ConceptRefusal.{suits, faulty_token, steps, refusal_3, refusal_4, refusal_5, refusal_6, concept_answer, AcceptedConcept}
use Rattle.records.specs.StateRefusal.{faulty_fact, ascends, descends, names_at, misnames, marks_at, mismarks, refusal_7, refusal_8, refusal_9, refusal_15, refusal_10, state_answer, AcceptedState}
use Rattle.records.specs.Helpers.Steps.{concept_steps}
use Rattle.records.specs.Helpers.Reading.{start_of, HasConcept, step_token, step_number}
use Rattle.records.specs.Helpers.InRange.{AxiomInRange, TokenInRange}
use Rattle.records.proofs.General.BoolLaws.{or_false, or_false_left, or_false_right, and_left, and_map, and_three_map, not_first}
use Rattle.records.proofs.General.FiniteLaws.{any_none}
use Rattle.records.proofs.ReadingLaws.{number_concept, whole_concept}

-- Nothing is refused only where no test applies.

-- the test before an answer that is no refusal
past : {A : Type 0} (r : Refusal) (rest : Result A Refusal) (test : Bool) → refusal_in (cond test (Err r) rest) ≡ None → (test ≡ false) × (refusal_in rest ≡ None)
past r rest test e = not_first (λ x. refusal_in x ≡ None) (Err r) rest (λ h. none-some r (sym h)) test e

pub faultless_schema : (w : List ℕ) → refusal_in (schema_answer w) ≡ None → (refusal_1 w ≡ false) × (refusal_14 w ≡ false) × (refusal_2 w ≡ false)
unfolding schema_answer
faultless_schema w e =
    let (a, p) = past refusal.SchemaShape _ (refusal_1 w) e in
    let (b, q) = past refusal.SchemaLoose _ (refusal_14 w) p in
    let (c, r) = past refusal.SchemaAxiom _ (refusal_2 w) q in (a, b, c)

module _ (w : List ℕ) (ok : AcceptedSchema w) where
  passes_schema : (refusal_1 w ≡ false) × (refusal_14 w ≡ false) × (refusal_2 w ≡ false)
  passes_schema = faultless_schema w (ap refusal_in ok)

  pub passes_1 : refusal_1 w ≡ false
  passes_1 = passes_schema.0

  pub passes_2 : refusal_2 w ≡ false
  passes_2 = passes_schema.2

module _ (limit : ℕ) (s : Signature) (w : List ℕ) where
  pub faultless_concept : refusal_in (concept_answer limit s w) ≡ None
      → (refusal_3 w ≡ false) × (refusal_4 s w ≡ false) × (refusal_5 w ≡ false) × (refusal_6 limit w ≡ false)
  unfolding concept_answer
  faultless_concept e =
      let (a, p) = past refusal.ConceptShape _ (refusal_3 w) e in
      let (b, q) = past refusal.ConceptToken _ (refusal_4 s w) p in
      let (c, r) = past refusal.ConceptPile _ (refusal_5 w) q in
      let (d, t) = past refusal.ConceptSteps _ (refusal_6 limit w) r in (a, b, c, d)

module _ (limit : ℕ) (s : Signature) (w : List ℕ) (ok : AcceptedConcept limit s w) where
  passes_concept : (refusal_3 w ≡ false) × (refusal_4 s w ≡ false) × (refusal_5 w ≡ false) × (refusal_6 limit w ≡ false)
  passes_concept = faultless_concept limit s w (ap refusal_in ok)

  pub passes_3 : refusal_3 w ≡ false
  passes_3 = passes_concept.0

  pub passes_4 : refusal_4 s w ≡ false
  passes_4 = passes_concept.1

  pub passes_5 : refusal_5 w ≡ false
  passes_5 = passes_concept.2

  pub passes_6 : refusal_6 limit w ≡ false
  passes_6 = passes_concept.3

  -- under a larger limit too: a view is a query
  pub accepted_wider : (more : ℕ) → limit ≤ more → AcceptedConcept more s w
  unfolding concept_answer refusal_6
  accepted_wider more h = rw (passes_3, passes_4, passes_5, six) refl
    where
      six : refusal_6 more w ≡ false
      six =
          let z = or_false (not (eqb (steps w) (size_at w 1))) (ltb limit (steps w)) passes_6 in
          rw (z.0, le-ltb more (steps w) (omega (arith, ltb-false limit (steps w) z.1))) refl

module _ (s : Signature) (w : List ℕ) where
  pub faultless_state : refusal_in (state_answer s w) ≡ None
      → (refusal_7 w ≡ false) × (refusal_8 s w ≡ false) × (refusal_9 w ≡ false) × (refusal_15 w ≡ false) × (refusal_10 s w ≡ false)
  unfolding state_answer
  faultless_state e =
      let (a, p) = past refusal.StateShape _ (refusal_7 w) e in
      let (b, q) = past refusal.StateFact _ (refusal_8 s w) p in
      let (c, r) = past refusal.StateOrder _ (refusal_9 w) q in
      let (d, t) = past refusal.StateClassFacts _ (refusal_15 w) r in
      let (f, u) = past refusal.StateNames _ (refusal_10 s w) t in (a, b, c, d, f)

module _ (s : Signature) (w : List ℕ) (ok : AcceptedState s w) where
  passes_state : (refusal_7 w ≡ false) × (refusal_8 s w ≡ false) × (refusal_9 w ≡ false) × (refusal_15 w ≡ false) × (refusal_10 s w ≡ false)
  passes_state = faultless_state s w (ap refusal_in ok)

  pub passes_7 : refusal_7 w ≡ false
  passes_7 = passes_state.0

  pub passes_8 : refusal_8 s w ≡ false
  passes_8 = passes_state.1

  pub passes_9 : refusal_9 w ≡ false
  passes_9 = passes_state.2

  pub passes_15 : refusal_15 w ≡ false
  passes_15 = passes_state.3

  pub passes_10 : refusal_10 s w ≡ false
  passes_10 = passes_state.4

-- .. and wherever no test applies
pub state_accepted : (s : Signature) (w : List ℕ) → refusal_7 w ≡ false → refusal_8 s w ≡ false → refusal_9 w ≡ false → refusal_15 w ≡ false → refusal_10 s w ≡ false → AcceptedState s w
unfolding state_answer
state_accepted s w e f g h k = rw (e, f, g, h, k)

-- What each test that does not apply gives.

abbrev pub Few : Signature → Type 0
Few s = (s.classes ≤ max_classes) × (s.attributes ≤ max_attributes) × (s.constants ≤ max_constants)

pub signature_few : (w : List ℕ) → refusal_1 w ≡ false → Few (signature_of w)
unfolding refusal_1
signature_few w e =
    let s = signature_of w in
    let named = or_false_left _ (ltb max_axioms (entries schema_layout w)) (or_false_left (oversized s (entries schema_layout w)) _ e) in
    let two = or_false_left (ltb max_classes s.classes || ltb max_attributes s.attributes) _ named in (
      ltb-false max_classes s.classes (or_false_left _ (ltb max_attributes s.attributes) two),
      ltb-false max_attributes s.attributes (or_false_right (ltb max_classes s.classes) _ two),
      ltb-false max_constants s.constants (or_false_right (ltb max_classes s.classes || ltb max_attributes s.attributes) _ named),
    )

pub axioms_few : (w : List ℕ) → refusal_1 w ≡ false → entries schema_layout w ≤ max_axioms
unfolding refusal_1
axioms_few w e = ltb-false max_axioms (entries schema_layout w) (or_false_right (ltb max_classes (signature_of w).classes || ltb max_attributes (signature_of w).attributes || ltb max_constants (signature_of w).constants) _ (or_false_left (oversized (signature_of w) (entries schema_layout w)) _ e))

pub axiom_declared : (w : List ℕ) → refusal_2 w ≡ false → (i : ℕ) → i < entries schema_layout w → So (declares (signature_of w) ((schema_of w).axiom_at i))
unfolding refusal_2 faulty_axiom
axiom_declared w e i l = not-false _ (or_false_right (outside 1 5 (axiom_kind _)) _ (any_none (faulty_axiom (signature_of w) w) (entries schema_layout w) e i l))

pub tokens_few : (w : List ℕ) → refusal_3 w ≡ false → entries concept_layout w ≤ max_tokens
unfolding refusal_3
tokens_few w e = ltb-false max_tokens (entries concept_layout w) (or_false_right (ltb (entries concept_layout w) 1) _ (or_false_left (outside 1 max_tokens (entries concept_layout w)) _ e))

pub token_suits : (s : Signature) (w : List ℕ) → refusal_4 s w ≡ false → (i : ℕ) → i < entries concept_layout w → So (suits s (token_at w i) (right_at concept_layout w i))
unfolding refusal_4 faulty_token
token_suits s w e i l = not-false _ (or_false_right (outside 1 10 (left_at concept_layout w i)) _ (any_none (faulty_token s w) (entries concept_layout w) e i l))

-- a concept whose record is not refused for its pile ends at the last token, starts at the first, and has the steps counted
module _ (w : List ℕ) (pile : refusal_5 w ≡ false) where
  pub accepted_concept : HasConcept w (entries concept_layout w) × (start_of w (entries concept_layout w) 1 ≡ zero)
  unfolding refusal_5
  accepted_concept = whole_concept w (entries concept_layout w) (not-false _ pile)

  pub accepted_steps : concept_steps (concept_of w) ≡ steps w
  unfolding concept_of steps count
  accepted_steps =
      omega (arith, number_concept w (entries concept_layout w) accepted_concept.0, ap (step_number w) accepted_concept.1)

  pub accepted_limit : (limit : ℕ) → refusal_6 limit w ≡ false → concept_steps (concept_of w) ≤ limit
  unfolding refusal_6
  accepted_limit limit q = omega (arith, accepted_steps, ltb-false limit (steps w) (or_false_right (not (eqb (steps w) (size_at w 1))) (ltb limit (steps w)) q))

pub objects_few : (w : List ℕ) → refusal_7 w ≡ false → objects w ≤ max_objects
unfolding refusal_7
objects_few w e = ltb-false max_objects (objects w) (or_false_left _ (ltb max_facts (entries state_layout w)) (or_false_left _ (misshapen state_layout w) e))

pub facts_few : (w : List ℕ) → refusal_7 w ≡ false → entries state_layout w ≤ max_facts
unfolding refusal_7
facts_few w e = ltb-false max_facts (entries state_layout w) (or_false_right (ltb max_objects (objects w)) _ (or_false_left _ (misshapen state_layout w) e))

pub fact_faultless : (s : Signature) (w : List ℕ) → refusal_8 s w ≡ false → (i : ℕ) → i < entries state_layout w → faulty_fact s w i ≡ false
unfolding refusal_8
fact_faultless s w e = any_none (faulty_fact s w) (entries state_layout w) e

pub fact_ascends : (w : List ℕ) → refusal_9 w ≡ false → (i : ℕ) → i + 1 < entries state_layout w → So (ascends w i)
unfolding refusal_9
fact_ascends w e i l = not-false _ (any_none (descends w) (entries state_layout w - 1) e i (omega arith))

pub constant_once : (s : Signature) (w : List ℕ) → refusal_10 s w ≡ false → (a : ℕ) → a < s.constants → count (entries state_layout w) (names_at w a) ≡ 1
unfolding refusal_10
constant_once s w e a l = eqb-true (count (entries state_layout w) (names_at w a)) 1 (not-false _ (or_false_left _ (repeats s (state_of w).names a) (any_none (misnames s w) s.constants (or_false_left _ (any max_marks (mismarks s w)) e) a l)))

pub mark_once : (s : Signature) (w : List ℕ) → refusal_10 s w ≡ false → (k : ℕ) → k < max_marks → So (allows s k) → count (entries state_layout w) (marks_at w k) ≡ 1
unfolding refusal_10
mark_once s w e k l h = eqb-true (count (entries state_layout w) (marks_at w k)) 1 (and_false h (any_none (mismarks s w) max_marks (or_false_right (any s.constants (misnames s w)) _ e) k l))
  where
    and_false : {a b : Bool} → So a → (a && not b) ≡ false → So b
    and_false {a} {b} p q = not-false b (rw p at q)

-- What an accepted record names is below the limits.

module _ (s : Signature) (classes : s.classes ≤ max_classes) (attributes : s.attributes ≤ max_attributes) where
  class_below : {A : ℕ} → So (ltb A s.classes) → A < max_classes
  class_below {A} t = omega (arith, ltb-true A s.classes t)

  attribute_below : {P : ℕ} → So (ltb P s.attributes) → P < max_attributes
  attribute_below {P} t = omega (arith, ltb-true P s.attributes t)

  declares_in_range : (x : Axiom) → So (declares s x) → AxiomInRange x
  declares_in_range (Subclass A B) = and_map class_below class_below
  declares_in_range (Typing A P B) = and_three_map class_below attribute_below class_below
  declares_in_range (Necessary A P) = and_map class_below attribute_below
  declares_in_range (Single A P) = and_map class_below attribute_below
  declares_in_range (Relates P A B) = and_three_map attribute_below class_below class_below

  suits_in_range : s.constants ≤ max_constants → (t : Token) (n : ℕ) → So (suits s t n) → TokenInRange t
  suits_in_range c (Class A) n h = class_below h
  suits_in_range c Everything n h = tt
  suits_in_range c (Constant a) n h = omega (arith, ltb-true a s.constants h)
  suits_in_range c Both n h = tt
  suits_in_range c Empty n h = tt
  suits_in_range c (Forward P) n h = attribute_below h
  suits_in_range c (Backward P) n h = attribute_below h
  suits_in_range c Reached n h = tt
  suits_in_range c Common n h = tt
  suits_in_range c (Mark k) n h = ltb-true k max_marks (and_left _ _ h)

pub step_in_range : (r : Direction) {P : ℕ} → TokenInRange (step_token r P) → P < max_attributes
step_in_range forward h = h
step_in_range backward h = h

module _ (schema : List ℕ) (ok : AcceptedSchema schema) where
  pub axiom_in_range : (i : ℕ) → i < entries schema_layout schema → AxiomInRange ((schema_of schema).axiom_at i)
  axiom_in_range i l =
      let few = signature_few schema (passes_1 schema ok) in
      declares_in_range (signature_of schema) few.0 few.1 ((schema_of schema).axiom_at i) (axiom_declared schema (passes_2 schema ok) i l)

-- .. whichever marks the signature allows
pub token_in_range : (s : Signature) → Few s → (limit : ℕ) (w : List ℕ) → AcceptedConcept limit s w → (i : ℕ) → i < entries concept_layout w → TokenInRange (token_at w i)
token_in_range s few limit w sound i l =
    suits_in_range s few.0 few.1 few.2 (token_at w i) (right_at concept_layout w i) (token_suits s w (passes_4 limit s w sound) i l)
