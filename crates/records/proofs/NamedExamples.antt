-- What some concepts name, by computing: a class twice; the last class and the last attribute, by a backward step; a constant,
-- under an axiom that mentions classes 0 and 1; and none where a concept is refused. The schema has all that may be declared.
use Prim.Native.Nat.{ℕ}
use mathlib.Core.List.{List, [], ◌∷◌}
use mathlib.Core.Path.{◌≡◌, refl}
use Rattle.std.specs.Prelude.{Result, Ok, Err}
use Rattle.records.specs.declared.named.Named.{Named}
use Rattle.records.specs.declared.refusal.Refusal.{Refusal}
use Rattle.records.specs.declared.refusal.Refusal.TheVariants as refusal
use Rattle.records.specs.Finite.{any, count, sum, set_of}
use Rattle.records.specs.Layout.{schema_layout, concept_layout, size_at, entries, left_at, right_at, length_for}
use Rattle.records.specs.SchemaRecord.{signature_of, axiom_kind, axiom_of, schema_of}
use Rattle.records.specs.ConceptRecord.{token_of, token_at, pile_after}
use Rattle.records.specs.Encoding.{Words, record_of, schema_record, concept_record, steps_in}
use Rattle.records.specs.Named.{class_named, attribute_named, named_in}
use Rattle.records.specs.Shape.{misshapen}
use Rattle.records.specs.SchemaRefusal.{refusal_1, refusal_14, faulty_axiom, refusal_2, schema_answer}
use Rattle.records.specs.ConceptRefusal.{refusal_3, faulty_token, refusal_4, refusal_5, steps, refusal_6, concept_answer}
use Rattle.records.specs.Outcome.{first_refusal, outcome}
use Rattle.records.specs.Check.{query_check, view_check}
use Rattle.records.proofs.Examples.{declaring}

-- both checks of a concept, by its tokens
abbrev checks : List Words → Result Named Refusal × Result Named Refusal
checks tokens =
    let schema = schema_record (declaring 24 8 4 0) ((256, 1) ∷ []) in
    (query_check schema (concept_record tokens), view_check schema (concept_record tokens))

abbrev says : ℕ → ℕ → ℕ → Result Named Refusal × Result Named Refusal
says classes attributes count =
    let named : Result Named Refusal = Ok (record { classes = classes; attributes = attributes; count = count }) in
    (named, named)

pub named_by_hand : (checks ((1, 5) ∷ (1, 5) ∷ (4, 0) ∷ []) ≡ says 32 0 1)
    × (checks ((5, 0) ∷ (1, 23) ∷ (7, 7) ∷ (8, 0) ∷ []) ≡ says 8_388_608 128 1)
    × (checks ((3, 3) ∷ []) ≡ says 0 0 0)
    × (checks ((1, 24) ∷ []) ≡ (Err refusal.ConceptToken, Err refusal.ConceptToken))
unfolding
    outcome first_refusal named_in class_named attribute_named set_of sum any count
    schema_layout concept_layout size_at entries left_at right_at length_for
    signature_of axiom_kind axiom_of schema_of token_of token_at pile_after record_of schema_record concept_record steps_in
    misshapen refusal_1 refusal_14 faulty_axiom refusal_2 schema_answer
    refusal_3 faulty_token refusal_4 refusal_5 steps refusal_6 concept_answer
named_by_hand = (refl, refl, refl, refl)
