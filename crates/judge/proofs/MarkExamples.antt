-- Marks by hand (document 02, note 6), in state S of document 01: persons 0 and 1 wear strap 2, and the constant, which is the
-- view, names 0. All places with one mark are one object, and two marks are two objects or one. Turned back are a used mark without
-- an object or with two, an unused one with an object, and marks where none may stand.
use Prim.Native.Nat.{ℕ, ◌+◌}
use mathlib.Core.List.{List, [], ◌∷◌}
use mathlib.Core.Path.{◌≡◌, refl}
use Rattle.std.specs.Prelude.{Option, Some, None, Result, Ok, Err}
use Rattle.records.specs.declared.refusal.Refusal.{Refusal}
use Rattle.records.specs.declared.refusal.Refusal.TheVariants as refusal
use Rattle.records.specs.Finite.{any, all, count, sum, set_of, least}
use Rattle.records.specs.State.{repeats}
use Rattle.records.specs.Layout.{schema_layout, concept_layout, state_layout, size_at, entries, left_at, right_at, length_for, mark_kinds}
use Rattle.records.specs.SchemaRecord.{signature_of, axiom_kind, axiom_of, schema_of}
use Rattle.records.specs.ConceptRecord.{token_of, token_at, pile_after, concept_of}
use Rattle.records.specs.StateRecord.{objects, class_facts, kind_at, object_at, is_class_fact, says, says_pair, state_of}
use Rattle.records.specs.Shape.{misshapen}
use Rattle.records.specs.Marks.{mark_used, used_marks}
use Rattle.records.specs.SchemaRefusal.{refusal_1, refusal_14, faulty_axiom, refusal_2, schema_answer}
use Rattle.records.specs.ConceptRefusal.{refusal_3, faulty_token, refusal_4, refusal_5, steps, refusal_6, concept_answer}
use Rattle.records.specs.StateRefusal.{refusal_7, faulty_fact, refusal_8, ascends, refusal_9, refusal_15, refusal_10, state_answer}
use Rattle.records.specs.Outcome.{refusal_11, first_refusal, outcome}
use Rattle.records.specs.Encoding.{Words, record_of, schema_record, concept_record, steps_in, fact, class_facts_in, state_record}
use Rattle.records.proofs.Examples.{schema_x}
use Rattle.judge.specs.Counterexample.{finding, counterexample_answer}
use Rattle.judge.specs.Select.{flags, selection, select_outcome}

-- state S with these facts of marks
abbrev choosing : List ℕ → List ℕ
choosing marks = state_record 3 (fact 0 2 0 ∷ fact 1 0 0 ∷ fact 1 1 0 ∷ fact 24 0 2 ∷ fact 24 1 2 ∷ fact 32 0 0 ∷ marks)

-- mark k is object d
abbrev mark : ℕ → ℕ → ℕ
mark k d = fact (mark_kinds + k) d 0

abbrev constant : List Words
constant = (3, 0) ∷ []

-- the object of mark k
abbrev marked : ℕ → List Words
marked k = (10, k) ∷ []

-- who wears the strap of mark k, and is the object of mark j
abbrev wearer : ℕ → ℕ → List Words
wearer k j = (5, 0) ∷ (10, k) ∷ (6, 0) ∷ (8, 0) ∷ (10, j) ∷ (4, 0) ∷ []

-- the object of both marks
abbrev together : ℕ → ℕ → List Words
together k j = (10, k) ∷ (10, j) ∷ (4, 0) ∷ []

abbrev answer : List Words → List Words → List ℕ → Result (Option ℕ) Refusal
answer query view marks = counterexample_answer schema_x (concept_record query) (concept_record view) (choosing marks)

abbrev selected : List Words → List ℕ → Result ℕ Refusal
selected concept marks = (select_outcome schema_x (concept_record concept) (choosing marks) (9 ∷ 9 ∷ 9 ∷ [])).answer

abbrev Answered : Type 0
Answered =
    (answer (marked 0) constant (mark 0 1 ∷ []) ≡ Ok (Some 1)) × (answer (marked 0) constant (mark 0 0 ∷ []) ≡ Ok None)
    × (answer (wearer 0 1) constant (mark 0 2 ∷ mark 1 1 ∷ []) ≡ Ok (Some 1)) × (answer (wearer 0 0) constant (mark 0 2 ∷ []) ≡ Ok None)
    × (answer (together 0 3) constant (mark 0 1 ∷ mark 3 1 ∷ []) ≡ Ok (Some 1)) × (answer (together 0 3) constant (mark 0 1 ∷ mark 3 2 ∷ []) ≡ Ok None)

abbrev TurnedBack : Type 0
TurnedBack =
    (answer (marked 0) constant [] ≡ Err refusal.StateNames) × (answer (marked 0) constant (mark 0 1 ∷ mark 0 2 ∷ []) ≡ Err refusal.StateNames)
    × (answer (marked 0) constant (mark 0 1 ∷ mark 1 1 ∷ []) ≡ Err refusal.StateFact) × (answer (marked 4) constant [] ≡ Err refusal.ConceptToken)
    × (answer (marked 0) (marked 0) (mark 0 1 ∷ []) ≡ Err refusal.ConceptToken)
    × (selected (marked 0) [] ≡ Err refusal.ConceptToken) × (selected constant (mark 0 1 ∷ []) ≡ Err refusal.StateFact)

pub marks_by_hand : Answered × TurnedBack
unfolding
    finding outcome first_refusal refusal_11 flags selection
    used_marks mark_used set_of sum repeats any all count least
    schema_layout concept_layout state_layout size_at entries left_at right_at length_for
    signature_of axiom_kind axiom_of schema_of token_of token_at pile_after concept_of objects class_facts kind_at object_at is_class_fact says says_pair state_of
    record_of schema_record concept_record steps_in class_facts_in state_record
    misshapen refusal_1 refusal_14 faulty_axiom refusal_2 schema_answer
    refusal_3 faulty_token refusal_4 refusal_5 steps refusal_6 concept_answer
    refusal_7 faulty_fact refusal_8 ascends refusal_9 refusal_15 refusal_10 state_answer
marks_by_hand = ((refl, refl, refl, refl, refl, refl), (refl, refl, refl, refl, refl, refl, refl))
