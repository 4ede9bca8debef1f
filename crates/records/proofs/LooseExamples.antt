-- Document 02, note 5, by computing: which numbers some schemas get, and some states of two objects under constants 0, 1 and 2 of
-- which the last alone is loose.
use Prim.Native.Nat.{ℕ, ◌^◌}
use mathlib.Core.List.{List, [], ◌∷◌}
use mathlib.Core.Path.{◌≡◌, refl}
use Rattle.records.specs.Finite.{any, count, least}
use Rattle.records.specs.State.{repeats}
use Rattle.records.specs.Layout.{schema_layout, state_layout, size_at, entries, left_at, right_at, length_for}
use Rattle.records.specs.SchemaRecord.{signature_of, axiom_kind, axiom_of, schema_of}
use Rattle.records.specs.StateRecord.{objects, class_facts, kind_at, object_at, is_class_fact, says, says_pair, state_of}
use Rattle.records.specs.Shape.{misshapen}
use Rattle.records.specs.SchemaRefusal.{refusal_1, refusal_14, faulty_axiom, refusal_2, schema_answer}
use Rattle.records.specs.Refusal.{returned}
use Rattle.records.specs.StateRefusal.{refusal_7, faulty_fact, refusal_8, ascends, refusal_9, refusal_15, refusal_10, state_answer}
use Rattle.records.specs.Encoding.{Words, record_of, schema_record, fact, class_facts_in, state_record}
use Rattle.records.proofs.Examples.{declaring}

-- the number of a schema with so many constants, these of them loose, and these axioms
abbrev schema_gets : ℕ → ℕ → List Words → ℕ
schema_gets constants loose axioms = returned (schema_answer (schema_record (declaring 1 0 constants loose) axioms))

-- the number of a state with these objects of constants 0, 1 and 2
abbrev state_gets : ℕ → ℕ → ℕ → ℕ
state_gets a b c = returned (state_answer (declaring 0 0 3 4) (state_record 2 (fact 32 a 0 ∷ fact 33 b 0 ∷ fact 34 c 0 ∷ [])))

pub loose_by_hand :
    -- the lowest bit is constant 0; the highest bit is never declared
    (schema_gets 1 1 [] ≡ 0) × (schema_gets 1 2 [] ≡ 14) × (schema_gets 4 15 [] ≡ 0) × (schema_gets 4 (2 ^ 15) [] ≡ 14)
    -- 1, 14, 2: five constants, and an axiom of no kind
    × (schema_gets 5 (2 ^ 15) [] ≡ 1) × (schema_gets 1 2 ((0, 0) ∷ []) ≡ 14) × (schema_gets 1 1 ((0, 0) ∷ []) ≡ 2)
    -- a loose constant shares, two that are not loose never do
    × (state_gets 0 1 0 ≡ 0) × (state_gets 0 1 1 ≡ 0) × (state_gets 0 0 1 ≡ 10) × (state_gets 0 0 0 ≡ 10)
unfolding
    repeats any count least schema_layout state_layout size_at entries left_at right_at length_for
    signature_of axiom_kind axiom_of schema_of objects class_facts kind_at object_at is_class_fact says says_pair state_of record_of schema_record class_facts_in state_record
    misshapen refusal_1 refusal_14 faulty_axiom refusal_2 schema_answer
    refusal_7 faulty_fact refusal_8 ascends refusal_9 refusal_15 refusal_10 state_answer
loose_by_hand = (refl, refl, refl, refl, refl, refl, refl, refl, refl, refl, refl)
