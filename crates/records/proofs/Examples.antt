-- Document 01, "Twelve small states, proved": rows (a) to (l) as a table of records, with what each is to show.
-- What a row says (True) is stated with the types of Semantics.antt and Schema.antt. A test that computes (passes)
-- implies it, so one computation proves the whole table: every row passes.
use Prim.Native.Nat.{ℕ, ◌+◌, ◌*◌, ◌<◌}
use mathlib.Core.Bool.{Bool, true, false, So, not, ◌&&◌, ◌||◌, beq, false≢true}
use mathlib.Core.List.Memᴰ
use mathlib.Core.List.{List, [], ◌∷◌, Memᴰ}
use mathlib.Core.Logic.Iff
use mathlib.Core.Logic.{◌↔◌, ⊎_elim}
use mathlib.Core.Path.{◌≡◌, refl}
use native.Mathlib.Omega.{arith}
use lib.Dec.{eqb, ltb}
use borrow.Author.Tests.{ltb-true, eqb-true}
use Rattle.records.specs.Finite.{all, any, count, least}
use Rattle.records.specs.declared.schema.Signature.{Signature}
use Rattle.records.specs.State.{State, repeats, Names}
use Rattle.records.specs.Schema.{Schema, Holds, Legal}
use Rattle.records.specs.Concept.{Concept}
use Rattle.records.specs.Semantics.{In, Selects}
use Rattle.records.specs.Layout.{schema_layout, concept_layout, state_layout, size_at, entries, left_at, right_at, length_for, query_steps, no_marks}
use Rattle.records.specs.SchemaRecord.{signature_of, axiom_kind, axiom_of, schema_of}
use Rattle.records.specs.ConceptRecord.{token_of, token_at, pile_after, concept_of}
use Rattle.records.specs.StateRecord.{objects, class_facts, kind_at, object_at, is_class_fact, says, says_pair, state_of}
use Rattle.records.specs.Shape.{misshapen}
use Rattle.records.specs.SchemaRefusal.{refusal_1, refusal_14, faulty_axiom, refusal_2, schema_answer}
use Rattle.records.specs.Refusal.{returned}
use Rattle.records.specs.ConceptRefusal.{refusal_3, faulty_token, refusal_4, refusal_5, steps, refusal_6, concept_answer}
use Rattle.records.specs.StateRefusal.{refusal_7, faulty_fact, refusal_8, ascends, refusal_9, refusal_15, refusal_10, state_answer}
use Rattle.records.specs.Encoding.{record_of, schema_record, concept_record, steps_in, fact, class_facts_in, state_record}
use Rattle.records.specs.Executable.{is_in, first_broken}
use Rattle.records.proofs.General.BoolLaws.{or_true_cases, false_of_not, and_map, and_three_map, same_iff}
use Rattle.records.proofs.General.FiniteLaws.{all_at}
use Rattle.records.proofs.ExecutableLaws.{is_in_iff, first_broken_none, first_broken_at, first_broken_before}

-- Rows.

-- the answer on a state: legal, or the first broken axiom by its place
pub data Verdict : Type 0 where
  legal : Verdict
  broken : ℕ → Verdict

pub data Row : Type 0 where
  -- schema, state, concept, and the objects that the concept selects
  selects : List ℕ → List ℕ → List ℕ → List ℕ → Row
  -- schema, state, and the answer on that state
  judged : List ℕ → List ℕ → Verdict → Row

-- What a row says: the records are accepted, and the concept selects exactly the objects listed, or the answer is right.

abbrev pub listed : List ℕ → ℕ → Bool
listed [] d = false
listed (e ∷ l) d = eqb e d || listed l d

pub record FirstBroken (S : Schema) (I : State) (k : ℕ) : Type 0 where
  pub place : k < S.axioms
  pub fails : Holds I (S.axiom_at k) → ⊥
  pub earlier : (i : ℕ) → i < k → Holds I (S.axiom_at i)

abbrev pub Deserves : Schema → State → Verdict → Type 0
Deserves S I legal = Legal S I
Deserves S I (broken k) = FirstBroken S I k

abbrev pub Accepted : List ℕ → List ℕ → Type 0
Accepted schema state =
    (returned (schema_answer schema) ≡ 0) × (returned (state_answer (signature_of schema) state) ≡ 0)

abbrev pub True : Row → Type 0
True (selects schema state concept objects) =
    Accepted schema state
    × (returned (concept_answer query_steps (signature_of schema) concept) ≡ 0)
    × ((d : ℕ) → Selects (state_of state) (concept_of concept) d ↔ So (listed objects d))
True (judged schema state verdict) = Accepted schema state × Deserves (schema_of schema) (state_of state) verdict

-- The table.

-- so many classes, attributes and constants, and which constants are loose
abbrev pub declaring : ℕ → ℕ → ℕ → ℕ → Signature
declaring classes attributes constants loose = record { classes = classes; attributes = attributes; constants = constants; loose = loose; marks = no_marks }

-- Classes 0 Strap, 1 Person; attribute 0 wears; one constant. An axiom by its left and right word.
-- Axiom 0: Person has at most one wears. Axiom 1: wears relates Person to Strap.
abbrev pub schema_x : List ℕ
schema_x = schema_record (declaring 2 1 1 0) ((4 * 256 + 1, 0) ∷ (5 * 256 + 0, 1 * 256 + 0) ∷ [])

-- Axiom 2: Strap needs wears.
abbrev pub schema_x₂ : List ℕ
schema_x₂ = schema_record (declaring 2 1 1 0) ((4 * 256 + 1, 0) ∷ (5 * 256 + 0, 1 * 256 + 0) ∷ (3 * 256 + 0, 0) ∷ [])

-- Three objects: Strap 2; Person 0 and 1; wears (0, 2) and (1, 2); the constant names 0.
abbrev pub state_s : List ℕ
state_s = state_record 3 (fact 0 2 0 ∷ fact 1 0 0 ∷ fact 1 1 0 ∷ fact 24 0 2 ∷ fact 24 1 2 ∷ fact 32 0 0 ∷ [])

abbrev pub empty_schema : List ℕ
empty_schema = schema_record (declaring 0 0 0 0) []

abbrev pub empty_state : List ℕ
empty_state = state_record 0 []

-- A concept: the sort and the argument of each token.
abbrev pub table : List Row
table =
    -- (a) everything
    selects schema_x state_s (concept_record ((2, 0) ∷ [])) (0 ∷ 1 ∷ 2 ∷ [])
    -- (b) the constant
    ∷ selects schema_x state_s (concept_record ((3, 0) ∷ [])) (0 ∷ [])
    -- (c) forward wears to Strap
    ∷ selects schema_x state_s (concept_record ((5, 0) ∷ (1, 0) ∷ (6, 0) ∷ (8, 0) ∷ [])) (0 ∷ 1 ∷ [])
    -- (d) backward wears to everything
    ∷ selects schema_x state_s (concept_record ((5, 0) ∷ (2, 0) ∷ (7, 0) ∷ (8, 0) ∷ [])) (2 ∷ [])
    -- (e) forward wears to everything, then backward wears to the constant
    ∷ selects schema_x state_s (concept_record ((5, 0) ∷ (2, 0) ∷ (6, 0) ∷ (3, 0) ∷ (7, 0) ∷ (8, 0) ∷ [])) (0 ∷ 1 ∷ [])
    -- (f) the path of (e) and the empty path in common
    ∷ selects schema_x state_s (concept_record ((5, 0) ∷ (2, 0) ∷ (6, 0) ∷ (3, 0) ∷ (7, 0) ∷ (5, 0) ∷ (9, 0) ∷ [])) (0 ∷ [])
    -- (g) the empty path reached
    ∷ selects schema_x state_s (concept_record ((5, 0) ∷ (8, 0) ∷ [])) (0 ∷ 1 ∷ 2 ∷ [])
    -- (h) Person and Strap
    ∷ selects schema_x state_s (concept_record ((1, 1) ∷ (1, 0) ∷ (4, 0) ∷ [])) []
    -- (i) wears to everything and wears to Strap in common
    ∷ selects schema_x state_s (concept_record ((5, 0) ∷ (2, 0) ∷ (6, 0) ∷ (5, 0) ∷ (1, 0) ∷ (6, 0) ∷ (9, 0) ∷ [])) (0 ∷ 1 ∷ [])
    -- (j) the state is legal
    ∷ judged schema_x state_s legal
    -- (k) the axiom added is broken
    ∷ judged schema_x₂ state_s (broken 2)
    -- (l) no constants, no axioms, no objects
    ∷ judged empty_schema empty_state legal
    ∷ []

-- The test, and that it shows what the row says.

accepts : List ℕ → List ℕ → Bool
accepts schema state =
    eqb (returned (schema_answer schema)) 0 && eqb (returned (state_answer (signature_of schema) state)) 0

accepts_true : (schema state : List ℕ) → So (accepts schema state) → Accepted schema state
unfolding accepts
accepts_true schema state = and_map (eqb-true _ _) (eqb-true _ _)

-- the numbers listed are below n
below : ℕ → List ℕ → Bool
below n [] = true
below n (e ∷ l) = ltb e n && below n l

below_true : (n : ℕ) (l : List ℕ) → So (below n l) → (d : ℕ) → So (listed l d) → d < n
unfolding below
below_true n [] b d h = absurd (false≢true h)
below_true n (e ∷ l) b d h =
    let t = and_map (ltb-true e n) (below_true n l) b in
    ⊎_elim (λ q. rw (← eqb-true e d q) t.0) (t.1 d) (or_true_cases (eqb e d) (listed l d) h)

exactly : State → Concept → List ℕ → Bool
exactly I C objects = all I.size (λ d. beq (is_in I C d) (listed objects d)) && below I.size objects

exactly_true : (I : State) (C : Concept) (objects : List ℕ) → So (exactly I C objects) → (d : ℕ) → Selects I C d ↔ So (listed objects d)
unfolding exactly
exactly_true I C objects e d =
    let t = and_map (all_at _ I.size) (below_true I.size objects) e in
    let same : d < I.size → In I C d ↔ So (listed objects d) = λ l. Iff.trans (Iff.symm (is_in_iff I C d)) (same_iff _ _ (t.0 d l)) in
    (λ s. (same s.0).0 s.1, λ h. (t.1 d h, (same (t.1 d h)).1 h))

-- the constants name objects, those that are to differ different ones
named : Signature → State → Bool
named s I = all s.constants (λ a. ltb (I.names a) I.size) && all s.constants λ a. not (repeats s I.names a)

named_true : (s : Signature) (I : State) → So (named s I) → Names s I
unfolding named
named_true s I e =
    let t = and_map (all_at _ s.constants) (all_at _ s.constants) e in
    record { inside = λ a l. ltb-true _ _ (t.0 a l); apart = λ a l. false_of_not _ (t.1 a l) }

deserves : Schema → State → Verdict → Bool
deserves S I legal = named S.signature I && eqb (first_broken S I) S.axioms
deserves S I (broken k) = ltb k S.axioms && eqb (first_broken S I) k

deserves_true : (S : Schema) (I : State) (v : Verdict) → So (deserves S I v) → Deserves S I v
unfolding deserves
deserves_true S I legal e =
    let t = and_map (named_true S.signature I) (eqb-true (first_broken S I) S.axioms) e in
    record { names = t.0; holds = first_broken_none S I t.1 }
deserves_true S I (broken k) e =
    let t = and_map (ltb-true k S.axioms) (eqb-true (first_broken S I) k) e in
    record {
      place = t.0;
      fails = rw t.1 at (first_broken_at S I (omega arith));
      earlier = λ i l. first_broken_before S I i (omega arith);
    }

pub passes : Row → Bool
passes (selects schema state concept objects) =
    accepts schema state
    && eqb (returned (concept_answer query_steps (signature_of schema) concept)) 0
    && exactly (state_of state) (concept_of concept) objects
passes (judged schema state verdict) = accepts schema state && deserves (schema_of schema) (state_of state) verdict

pub passes_true : (r : Row) → So (passes r) → True r
unfolding passes
passes_true (selects schema state concept objects) =
    and_three_map (accepts_true schema state) (eqb-true _ _) (exactly_true (state_of state) (concept_of concept) objects)
passes_true (judged schema state verdict) =
    and_map (accepts_true schema state) (deserves_true (schema_of schema) (state_of state) verdict)

-- Every row.

all_pass : List Row → Bool
all_pass [] = true
all_pass (r ∷ rows) = passes r && all_pass rows

all_pass_true : (rows : List Row) → So (all_pass rows) → (r : Row) → Memᴰ r rows → True r
unfolding all_pass
all_pass_true [] e r m = absurd (Memᴰ.not-nil m)
all_pass_true (x ∷ rows) e r m =
    let t = and_map (passes_true x) (all_pass_true rows) e in
    ⊎_elim (λ q. rw q t.0) (t.1 r) (Memᴰ.cases_cons m)

table_passes : So (all_pass table)
unfolding
    all_pass passes accepts exactly below deserves named repeats all any count least
    schema_layout concept_layout state_layout size_at entries left_at right_at length_for
    signature_of axiom_kind axiom_of schema_of token_of token_at pile_after concept_of objects class_facts kind_at object_at is_class_fact says says_pair state_of
    record_of schema_record concept_record steps_in class_facts_in state_record
    misshapen refusal_1 refusal_14 faulty_axiom refusal_2 schema_answer
    refusal_3 faulty_token refusal_4 refusal_5 steps refusal_6 concept_answer
    refusal_7 faulty_fact refusal_8 ascends refusal_9 refusal_15 refusal_10 state_answer
table_passes = refl

pub table_true : (r : Row) → Memᴰ r table → True r
table_true = all_pass_true table table_passes
