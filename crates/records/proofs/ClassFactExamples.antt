-- Document 02, note 7, by computing: which numbers some states of two objects get, under two classes, an attribute and a constant.
use Prim.Native.Nat.{ℕ}
use mathlib.Core.List.{List, [], ◌∷◌}
use mathlib.Core.Path.{◌≡◌, refl}
use lib.ListN.{length}
use Rattle.records.specs.Finite.{any, count, least}
use Rattle.records.specs.State.{repeats}
use Rattle.records.specs.Layout.{state_layout, size_at, entries, left_at, right_at, length_for}
use Rattle.records.specs.StateRecord.{objects, class_facts, kind_at, object_at, is_class_fact, says, says_pair, state_of}
use Rattle.records.specs.Shape.{misshapen}
use Rattle.records.specs.StateRefusal.{refusal_7, faulty_fact, refusal_8, ascends, refusal_9, refusal_15, refusal_10, state_answer}
use Rattle.records.specs.Refusal.{returned}
use Rattle.records.specs.Encoding.{record_of, fact, left_word, right_word, state_sizes}
use Rattle.records.proofs.Examples.{declaring}

-- the number of a state that says it has so many class facts, and has these facts
abbrev gets : ℕ → List ℕ → ℕ
gets said facts = returned (state_answer (declaring 2 1 1 0) (record_of left_word right_word (state_sizes 2 (length facts) said) facts))

-- a member of class 1, a pair, and the constant's object
abbrev member : ℕ
member = fact 1 0 0

abbrev pair : ℕ
pair = fact 24 0 1

abbrev name : ℕ
name = fact 32 0 0

pub counted_by_hand :
    -- neither the pair nor the constant's fact is a class fact
    (gets 1 (member ∷ pair ∷ name ∷ []) ≡ 0) × (gets 0 (member ∷ pair ∷ name ∷ []) ≡ 15) × (gets 2 (member ∷ pair ∷ name ∷ []) ≡ 15)
    × (gets 3 (member ∷ pair ∷ name ∷ []) ≡ 15) × (gets 0 (pair ∷ name ∷ []) ≡ 0)
    -- a count above every limit
    × (gets 65_535 (member ∷ pair ∷ name ∷ []) ≡ 15)
    -- 8, 9, 15, 10: an undeclared class, two facts exchanged, no object of the constant
    × (gets 0 (fact 2 0 0 ∷ name ∷ []) ≡ 8) × (gets 0 (pair ∷ member ∷ name ∷ []) ≡ 9) × (gets 0 (member ∷ []) ≡ 15) × (gets 1 (member ∷ []) ≡ 10)
unfolding
    repeats any count least state_layout size_at entries left_at right_at length_for
    objects class_facts kind_at object_at is_class_fact says says_pair state_of record_of
    misshapen refusal_7 faulty_fact refusal_8 ascends refusal_9 refusal_15 refusal_10 state_answer
counted_by_hand = (refl, refl, refl, refl, refl, refl, refl, refl, refl, refl)
