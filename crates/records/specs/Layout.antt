-- Document 01, "Records": the shape that all records share, and every limit and layout number, each under one name.
-- A record is a list of words, unsigned numbers of 16 bits.
use Rattle.std.specs.Prelude.{ℕ, ◌+◌, ◌*◌, List, get_or}
use Rattle.records.specs.declared.layout.Layout.{Layout}

-- Sizes come first. A layout says how many size words there are, and which of them, from 0, counts the entries of the
-- two arrays (the struct of src/layout.rt).

-- classes, attributes, constants, axioms, loose constants (document 02, note 5)
unfoldable pub schema_layout : Layout
schema_layout = record { sizes = 5; counter = 3 }

-- tokens, steps
unfoldable pub concept_layout : Layout
concept_layout = record { sizes = 2; counter = 0 }

-- objects, facts, class facts (document 02, note 7)
unfoldable pub state_layout : Layout
state_layout = record { sizes = 3; counter = 1 }

-- a size word, 0 past the end
unfoldable pub size_at : List ℕ → ℕ → ℕ
size_at w k = get_or w k 0

-- Then two parallel arrays, the left words and the right words.
unfoldable pub entries : Layout → List ℕ → ℕ
entries L w = size_at w L.counter

unfoldable pub left_at : Layout → List ℕ → ℕ → ℕ
left_at L w i = get_or w (L.sizes + i) 0

unfoldable pub right_at : Layout → List ℕ → ℕ → ℕ
right_at L w i = get_or w (L.sizes + entries L w + i) 0

-- the length of a record with n entries
unfoldable pub length_for : Layout → ℕ → ℕ
length_for L n = L.sizes + 2 * n

-- the binary digits of a word
abbrev pub word_digits : ℕ
word_digits = 16

-- Limits.
abbrev pub max_classes : ℕ
max_classes = 24

abbrev pub max_attributes : ℕ
max_attributes = 8

abbrev pub max_constants : ℕ
max_constants = 4

abbrev pub max_marks : ℕ
max_marks = 4

abbrev pub max_axioms : ℕ
max_axioms = 96

abbrev pub max_tokens : ℕ
max_tokens = 64

abbrev pub query_steps : ℕ
query_steps = 16

abbrev pub view_steps : ℕ
view_steps = 6

-- The marks that a concept may name, as a set: those of a query, and those of every other concept.
abbrev pub query_marks : ℕ
query_marks = 15

abbrev pub no_marks : ℕ
no_marks = 0

abbrev pub max_views : ℕ
max_views = 16

abbrev pub max_objects : ℕ
max_objects = 480

abbrev pub max_facts : ℕ
max_facts = 15_384

-- the words that a state of any accepted size takes
unfoldable pub max_state_words : ℕ
max_state_words = length_for state_layout max_facts

-- A number of two parts: what stands in front, and what is left of it, by how many numbers the second part has.
-- the subject of an axiom, and the second of two names
abbrev pub byte_part : ℕ
byte_part = 256

-- the object of a fact
abbrev pub object_part : ℕ
object_part = 512

-- the right word of a fact that is one number
abbrev pub word_part : ℕ
word_part = 65_536

-- the first fact kind of attributes
abbrev pub attribute_kinds : ℕ
attribute_kinds = 24

-- the first fact kind of constants
abbrev pub constant_kinds : ℕ
constant_kinds = 32

-- the first fact kind of marks
abbrev pub mark_kinds : ℕ
mark_kinds = 36

-- one past the last fact kind
abbrev pub fact_kinds : ℕ
fact_kinds = 40
