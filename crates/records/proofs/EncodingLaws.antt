-- What is read from a record that was made from its sizes and entries: over any layout of as many size words, of which the
-- counter's is the number of entries (Sizes), and from there of the three records.
use Prim.Native.Nat.{ℕ, zero, suc, ◌+◌, ◌*◌, ◌/◌, ◌%◌, ◌≤◌, ◌<◌}
use native.Mathlib.Omega.{arith}
use mathlib.Core.Bool.{false}
use mathlib.Core.List.{List, [], ◌∷◌, ◌++◌, map}
use mathlib.Core.Path.{◌≡◌, refl, sym, ap, ap₂, ◌∙◌}
use lib.Dec.{ltb}
use lib.ListN.{length, get_or, length-append, length-map, get_or-append}
use lib.Seq.{get_or-append-add}
use borrow.Author.Tests.{eq-eqb, le-ltb}
use Rattle.records.specs.declared.layout.Layout.{Layout}
use Rattle.records.specs.declared.schema.Signature.{Signature}
use Rattle.records.specs.declared.schema.Axiom.{Axiom}
use Rattle.records.specs.declared.schema.Axiom.TheVariants.{Subclass, Typing, Necessary, Single, Relates}
use Rattle.records.specs.Finite.{count}
use Rattle.records.specs.Layout.{schema_layout, concept_layout, state_layout, size_at, entries, left_at, right_at, length_for, max_facts, max_state_words, no_marks, byte_part, object_part, word_part, attribute_kinds}
use Rattle.records.specs.SchemaRecord.{signature_of, axiom_kind, axiom_of, schema_of}
use Rattle.records.specs.ConceptRecord.{token_of, token_at}
use Rattle.records.specs.StateRecord.{objects, class_facts, kind_at, object_at, is_class_fact}
use Rattle.records.specs.Shape.{misshapen}
use Rattle.records.specs.ConceptRefusal.{is_step, step_at, steps}
use Rattle.records.specs.StateRefusal.{refusal_15}
use Rattle.records.specs.Encoding.{record_of, Words, left_of, right_of, schema_sizes, schema_record, axiom_words, steps_in, concept_sizes, concept_record, fact, left_word, right_word, class_facts_in, state_sizes, state_record}
use Rattle.records.specs.Marks.{allowing}
use Rattle.records.specs.Helpers.InRange.{AxiomInRange}
use Rattle.records.proofs.General.FiniteLaws.{count_same}

-- the size words of a layout, for n entries
pub record Sizes (L : Layout) (sizes : List ℕ) (n : ℕ) : Type 0 where
  pub many : length sizes ≡ L.sizes
  pub inside : L.counter < L.sizes
  pub counts : get_or sizes L.counter 0 ≡ n

map_at : {E : Type 0} (f : E → ℕ) (l : List E) (i : ℕ) (d : E) → i < length l → get_or (map f l) i 0 ≡ f (get_or l i d)
map_at f [] i d h = absurd (omega arith)
map_at f (x ∷ l) zero d h = refl
map_at f (x ∷ l) (suc i) d h = map_at f l i d (omega arith)

module _ {E : Type 0} (left right : E → ℕ) {L : Layout} (sizes : List ℕ) (l : List E) (ok : Sizes L sizes (length l)) where
  abbrev w : List ℕ
  w = record_of left right sizes l

  front : length (sizes ++ map left l) ≡ L.sizes + length l
  front = omega (arith, length-append sizes (map left l), length-map l left, ok.many)

  pub record_size : (k : ℕ) → k < L.sizes → size_at w k ≡ get_or sizes k 0
  unfolding size_at record_of
  record_size k h =
      get_or-append (sizes ++ map left l) (map right l) 0 k (omega (arith, front))
      ∙ get_or-append sizes (map left l) 0 k (omega (arith, ok.many))

  pub record_entries : entries L w ≡ length l
  unfolding entries
  record_entries = record_size L.counter ok.inside ∙ ok.counts

  pub record_length : length w ≡ length_for L (length l)
  unfolding length_for record_of
  record_length = omega (arith, length-append (sizes ++ map left l) (map right l), front, length-map l right)

  pub record_left : (d : E) (i : ℕ) → i < length l → left_at L w i ≡ left (get_or l i d)
  unfolding left_at record_of
  record_left d i h =
      get_or-append (sizes ++ map left l) (map right l) 0 (L.sizes + i) (omega (arith, front))
      ∙ ap (λ (k : ℕ). get_or (sizes ++ map left l) (k + i) 0) (sym ok.many)
      ∙ get_or-append-add sizes (map left l) i 0
      ∙ map_at left l i d h

  pub record_right : (d : E) (i : ℕ) → i < length l → right_at L w i ≡ right (get_or l i d)
  unfolding right_at record_of
  record_right d i h =
      ap (λ (k : ℕ). get_or (sizes ++ map left l ++ map right l) (k + i) 0) (omega (arith, front, record_entries))
      ∙ get_or-append-add (sizes ++ map left l) (map right l) i 0
      ∙ map_at right l i d h

  pub record_shaped : misshapen L w ≡ false
  unfolding misshapen length_for
  record_shaped =
      rw (
        le-ltb (length w) L.sizes (omega (arith, record_length)),
        eq-eqb (length w) (length_for L (entries L w)) (record_length ∙ ap (length_for L) (sym record_entries)),
      )

-- The schema.
module _ (s : Signature) (l : List Words) where
  abbrev schema_words : List ℕ
  schema_words = schema_record s l

  schema_sizes_lem : Sizes schema_layout (schema_sizes s (length l)) (length l)
  unfolding schema_layout
  schema_sizes_lem = record { many = refl; inside = omega arith; counts = refl }

  pub schema_signature : signature_of schema_words ≡ allowing no_marks s
  unfolding signature_of size_at schema_record record_of
  schema_signature = refl

  pub schema_axioms : (schema_of schema_words).axioms ≡ length l
  unfolding schema_of schema_record
  schema_axioms = record_entries left_of right_of _ l schema_sizes_lem

  pub schema_axiom : (i : ℕ) → i < length l
      → (schema_of schema_words).axiom_at i ≡ axiom_of (left_of (get_or l i (0, 0))) (right_of (get_or l i (0, 0)))
  unfolding schema_of schema_record
  schema_axiom i h =
      ap₂ axiom_of (record_left left_of right_of _ l schema_sizes_lem (0, 0) i h) (record_right left_of right_of _ l schema_sizes_lem (0, 0) i h)

  pub schema_shaped : misshapen schema_layout schema_words ≡ false
  unfolding schema_record
  schema_shaped = record_shaped left_of right_of _ l schema_sizes_lem

byte_front : (k r : ℕ) → r < byte_part → (k * byte_part + r) / byte_part ≡ k
byte_front k r h = omega arith

byte_rest : (k r : ℕ) → r < byte_part → (k * byte_part + r) % byte_part ≡ r
byte_rest k r h = omega arith

pub axiom_read : (x : Axiom) → AxiomInRange x → axiom_of (left_of (axiom_words x)) (right_of (axiom_words x)) ≡ x
unfolding axiom_of axiom_kind
axiom_read (Subclass A B) h = rw (byte_front 1 A (omega arith), byte_rest 1 A (omega arith))
axiom_read (Typing A P B) h =
    rw (byte_front 2 A (omega arith), byte_rest 2 A (omega arith), byte_front P B (omega arith), byte_rest P B (omega arith))
axiom_read (Necessary A P) h = rw (byte_front 3 A (omega arith), byte_rest 3 A (omega arith))
axiom_read (Single A P) h = rw (byte_front 4 A (omega arith), byte_rest 4 A (omega arith))
axiom_read (Relates P A B) h =
    rw (byte_front 5 P (omega arith), byte_rest 5 P (omega arith), byte_front A B (omega arith), byte_rest A B (omega arith))

-- The concept.
module _ (l : List Words) where
  concept_sizes_lem : Sizes concept_layout (concept_sizes (steps_in l) (length l)) (length l)
  unfolding concept_layout
  concept_sizes_lem = record { many = refl; inside = omega arith; counts = refl }

  pub concept_tokens : entries concept_layout (concept_record l) ≡ length l
  unfolding concept_record
  concept_tokens = record_entries left_of right_of _ l concept_sizes_lem

  pub concept_token : (i : ℕ) → i < length l
      → token_at (concept_record l) i ≡ token_of (left_of (get_or l i (0, 0))) (right_of (get_or l i (0, 0)))
  unfolding token_at concept_record
  concept_token i h =
      ap₂ token_of (record_left left_of right_of _ l concept_sizes_lem (0, 0) i h) (record_right left_of right_of _ l concept_sizes_lem (0, 0) i h)

  concept_size : size_at (concept_record l) 1 ≡ steps_in l
  unfolding size_at concept_record record_of
  concept_size = refl

  pub concept_steps_lem : steps (concept_record l) ≡ size_at (concept_record l) 1
  unfolding steps steps_in
  concept_steps_lem =
      ap (λ (n : ℕ). count n (step_at (concept_record l))) concept_tokens
      ∙ count_same (step_at (concept_record l)) _ (length l) (λ i h. ap is_step (concept_token i h))
      ∙ sym concept_size

  pub concept_shaped : misshapen concept_layout (concept_record l) ≡ false
  unfolding concept_record
  concept_shaped = record_shaped left_of right_of _ l concept_sizes_lem

-- The parts of a fact.
abbrev pub kind_of : ℕ → ℕ
kind_of f = left_word f / object_part

abbrev pub object_in : ℕ → ℕ
object_in f = left_word f % object_part

pub fact_parts : (k d r : ℕ) → d < object_part → r < word_part
    → (kind_of (fact k d r) ≡ k) × (object_in (fact k d r) ≡ d) × (right_word (fact k d r) ≡ r)
fact_parts k d r h j = omega arith

-- The state.

-- how many words n facts take, and that those of any accepted state are few
pub state_words : (n : ℕ) → length_for state_layout n ≡ length (state_sizes 0 0 0) + 2 * n
unfolding length_for state_layout
state_words n = refl

pub state_fits : (n : ℕ) → n ≤ max_facts → length_for state_layout n ≤ max_state_words
unfolding length_for max_state_words
state_fits n h = omega arith

module _ (n : ℕ) (l : List ℕ) where
  state_sizes_lem : Sizes state_layout (state_sizes n (length l) (class_facts_in l)) (length l)
  unfolding state_layout
  state_sizes_lem = record { many = refl; inside = omega arith; counts = refl }

  pub state_objects : objects (state_record n l) ≡ n
  unfolding objects size_at state_record record_of
  state_objects = refl

  pub state_facts : entries state_layout (state_record n l) ≡ length l
  unfolding state_record
  state_facts = record_entries left_word right_word _ l state_sizes_lem

  pub state_length : length (state_record n l) ≡ length_for state_layout (length l)
  unfolding state_record
  state_length = record_length left_word right_word _ l state_sizes_lem

  pub state_left : (i : ℕ) → i < length l → left_at state_layout (state_record n l) i ≡ left_word (get_or l i 0)
  unfolding state_record
  state_left = record_left left_word right_word _ l state_sizes_lem 0

  pub state_right : (i : ℕ) → i < length l → right_at state_layout (state_record n l) i ≡ right_word (get_or l i 0)
  unfolding state_record
  state_right = record_right left_word right_word _ l state_sizes_lem 0

  pub state_kind : (i : ℕ) → i < length l → kind_at (state_record n l) i ≡ kind_of (get_or l i 0)
  unfolding kind_at
  state_kind i h = ap (λ (x : ℕ). x / object_part) (state_left i h)

  pub state_object : (i : ℕ) → i < length l → object_at (state_record n l) i ≡ object_in (get_or l i 0)
  unfolding object_at
  state_object i h = ap (λ (x : ℕ). x % object_part) (state_left i h)

  state_said : class_facts (state_record n l) ≡ class_facts_in l
  unfolding class_facts size_at state_record record_of
  state_said = refl

  state_counts : count (entries state_layout (state_record n l)) (is_class_fact (state_record n l)) ≡ class_facts_in l
  unfolding class_facts_in is_class_fact
  state_counts =
      ap (λ (m : ℕ). count m (is_class_fact (state_record n l))) state_facts
      ∙ count_same (is_class_fact (state_record n l)) _ (length l) (λ i h. ap (λ (k : ℕ). ltb k attribute_kinds) (state_kind i h))

  pub state_counted : refusal_15 (state_record n l) ≡ false
  unfolding refusal_15
  state_counted = rw (eq-eqb (class_facts (state_record n l)) _ (state_said ∙ sym state_counts))

  pub state_shaped : misshapen state_layout (state_record n l) ≡ false
  unfolding state_record
  state_shaped = record_shaped left_word right_word _ l state_sizes_lem
