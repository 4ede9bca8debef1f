-- Links counted by hand. In the sheet objects 0, 1 and 3 are in class 0, and attribute 0 has five pairs: three objects are selected,
-- one of them without a value, and three pairs begin at the other two. In state S of document 01 two persons wear one strap; S has
-- one attribute, so 1 is refused, but not before a state without its constant.
use Prim.Native.Nat.{ℕ}
use mathlib.Core.Bool.{Bool, ◌||◌, ◌&&◌}
use mathlib.Core.List.{List, [], ◌∷◌}
use mathlib.Core.Path.{◌≡◌, refl}
use lib.Dec.{eqb}
use Rattle.std.specs.Prelude.{Result, Ok, Err}
use Rattle.records.specs.declared.refusal.Refusal.{Refusal}
use Rattle.records.specs.declared.refusal.Refusal.TheVariants as refusal
use Rattle.records.specs.Finite.{any, count, sum, least}
use Rattle.records.specs.State.{State, repeats}
use Rattle.records.specs.Concept.{class}
use Rattle.records.specs.Layout.{schema_layout, concept_layout, state_layout, size_at, entries, left_at, right_at, length_for}
use Rattle.records.specs.SchemaRecord.{signature_of, axiom_kind, axiom_of, schema_of}
use Rattle.records.specs.ConceptRecord.{token_of, token_at, pile_after, concept_of}
use Rattle.records.specs.StateRecord.{objects, class_facts, kind_at, object_at, is_class_fact, says, says_pair, state_of}
use Rattle.records.specs.Shape.{misshapen}
use Rattle.records.specs.SchemaRefusal.{refusal_1, refusal_14, faulty_axiom, refusal_2, schema_answer}
use Rattle.records.specs.ConceptRefusal.{refusal_3, faulty_token, refusal_4, refusal_5, steps, refusal_6, concept_answer}
use Rattle.records.specs.StateRefusal.{refusal_7, faulty_fact, refusal_8, ascends, refusal_9, refusal_15, refusal_10, state_answer}
use Rattle.records.specs.Outcome.{refusal_12, first_refusal, outcome}
use Rattle.records.specs.Encoding.{record_of, schema_record, concept_record, steps_in, class_facts_in, state_record}
use Rattle.records.proofs.Examples.{schema_x, state_s, empty_state}
use Rattle.links.specs.Links.{links_by_first, links_by_second, by_first_answer, by_second_answer}

abbrev pair : ℕ → ℕ → ℕ → ℕ → Bool
pair a b d e = eqb d a && eqb e b

abbrev sheet : State
sheet =
    record {
      size = 4;
      members = λ A d. eqb d 0 || eqb d 1 || eqb d 3;
      pairs = λ P d e. pair 0 1 d e || pair 0 2 d e || pair 1 2 d e || pair 2 0 d e || pair 2 1 d e;
      names = λ a. 0;
      marks = λ k. 0;
    }

pub sheet_counts : (links_by_first sheet (class 0) 0 ≡ 3) × (links_by_second sheet (class 0) 0 ≡ 3)
unfolding links_by_first links_by_second sum count
sheet_counts = (refl, refl)

-- by class, a concept of one token
abbrev answers : ℕ → List ℕ → ℕ → Result ℕ Refusal × Result ℕ Refusal
answers A state P = (by_first_answer schema_x (concept_record ((1, A) ∷ [])) state P, by_second_answer schema_x (concept_record ((1, A) ∷ [])) state P)

pub persons_straps : (answers 1 state_s 0 ≡ (Ok 2, Ok 2)) × (answers 0 state_s 0 ≡ (Ok 0, Ok 0))
    × (answers 1 state_s 1 ≡ (Err refusal.Attribute, Err refusal.Attribute)) × (answers 1 empty_state 1 ≡ (Err refusal.StateNames, Err refusal.StateNames))
unfolding
    links_by_first links_by_second sum outcome first_refusal refusal_12
    repeats any count least
    schema_layout concept_layout state_layout size_at entries left_at right_at length_for
    signature_of axiom_kind axiom_of schema_of token_of token_at pile_after concept_of objects class_facts kind_at object_at is_class_fact says says_pair state_of
    record_of schema_record concept_record steps_in class_facts_in state_record
    misshapen refusal_1 refusal_14 faulty_axiom refusal_2 schema_answer
    refusal_3 faulty_token refusal_4 refusal_5 steps refusal_6 concept_answer
    refusal_7 faulty_fact refusal_8 ascends refusal_9 refusal_15 refusal_10 state_answer
persons_straps = (refl, refl, refl, refl)
