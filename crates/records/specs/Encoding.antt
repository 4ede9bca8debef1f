-- Document 01, "Records", the other way: a record from its sizes and its entries. That it reads back as these is proved once,
-- over the layout (proofs/EncodingLaws.antt).
use Rattle.std.specs.Prelude.{ℕ, ◌+◌, ◌*◌, ◌/◌, ◌%◌, Bool, List, [], ◌∷◌, ◌++◌, map, ltb, length, get_or}
use Rattle.records.specs.declared.schema.Signature.{Signature}
use Rattle.records.specs.declared.schema.Axiom.{Axiom}
use Rattle.records.specs.declared.schema.Axiom.TheVariants.{Subclass, Typing, Necessary, Single, Relates}
use Rattle.records.specs.Finite.{count}
use Rattle.records.specs.Layout.{byte_part, object_part, word_part, attribute_kinds, constant_kinds, mark_kinds}
use Rattle.records.specs.ConceptRecord.{token_of}
use Rattle.records.specs.ConceptRefusal.{is_step}

-- The size words, then the left word of each entry, then the right words.
unfoldable pub record_of : {E : Type 0} → (E → ℕ) → (E → ℕ) → List ℕ → List E → List ℕ
record_of left right sizes l = sizes ++ map left l ++ map right l

-- An entry as its two words.
abbrev pub Words : Type 0
Words = ℕ × ℕ

abbrev pub left_of : Words → ℕ
left_of e = e.0

abbrev pub right_of : Words → ℕ
right_of e = e.1

-- the size words, for so many axioms
abbrev pub schema_sizes : Signature → ℕ → List ℕ
schema_sizes s axioms = s.classes ∷ s.attributes ∷ s.constants ∷ axioms ∷ s.loose ∷ []

unfoldable pub schema_record : Signature → List Words → List ℕ
schema_record s axioms = record_of left_of right_of (schema_sizes s (length axioms)) axioms

-- the words that `axiom_of` of SchemaRecord reads
abbrev pub axiom_words : Axiom → Words
axiom_words (Subclass A B) = (1 * byte_part + A, B)
axiom_words (Typing A P B) = (2 * byte_part + A, P * byte_part + B)
axiom_words (Necessary A P) = (3 * byte_part + A, P)
axiom_words (Single A P) = (4 * byte_part + A, P)
axiom_words (Relates P A B) = (5 * byte_part + P, A * byte_part + B)

-- the tokens that are steps
unfoldable pub steps_in : List Words → ℕ
steps_in tokens =
    count (length tokens) λ i. is_step (token_of (left_of (get_or tokens i (0, 0))) (right_of (get_or tokens i (0, 0))))

-- the size words, for so many tokens
abbrev pub concept_sizes : ℕ → ℕ → List ℕ
concept_sizes steps tokens = tokens ∷ steps ∷ []

unfoldable pub concept_record : List Words → List ℕ
concept_record tokens = record_of left_of right_of (concept_sizes (steps_in tokens) (length tokens)) tokens

-- A fact as one number, its left word before its right word, so that facts ascend as these numbers do.
abbrev pub fact : ℕ → ℕ → ℕ → ℕ
fact kind d right = (kind * object_part + d) * word_part + right

abbrev pub left_word : ℕ → ℕ
left_word f = f / word_part

abbrev pub right_word : ℕ → ℕ
right_word f = f % word_part

-- constant a, or mark k, has object d
abbrev pub name_fact : ℕ → ℕ → ℕ
name_fact a d = fact (constant_kinds + a) d 0

abbrev pub mark_fact : ℕ → ℕ → ℕ
mark_fact k d = fact (mark_kinds + k) d 0

-- the fact puts its object in a class
abbrev pub class_fact : ℕ → Bool
class_fact f = ltb (left_word f / object_part) attribute_kinds

unfoldable pub class_facts_in : List ℕ → ℕ
class_facts_in facts = count (length facts) λ i. class_fact (get_or facts i 0)

-- the size words, for so many facts
abbrev pub state_sizes : ℕ → ℕ → ℕ → List ℕ
state_sizes objects facts class_facts = objects ∷ facts ∷ class_facts ∷ []

-- of n objects with these facts
unfoldable pub state_record : ℕ → List ℕ → List ℕ
state_record n facts = record_of left_word right_word (state_sizes n (length facts) (class_facts_in facts)) facts
