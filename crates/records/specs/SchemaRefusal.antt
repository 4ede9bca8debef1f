-- Document 01, "Turned back": the refusals of a schema, each a test named by its number, and the answer of its check: the first
-- that applies, or what an accepted schema declares.
use Rattle.std.specs.Prelude.{ℕ, List, Bool, cond, not, ◌&&◌, ◌||◌, ◌≡◌, ltb, leb, Result, Ok, Err}
use Rattle.records.specs.declared.schema.Axiom.{Axiom}
use Rattle.records.specs.declared.schema.Axiom.TheVariants.{Subclass, Typing, Necessary, Single, Relates}
use Rattle.records.specs.declared.schema.Signature.{Signature}
use Rattle.records.specs.declared.refusal.Refusal.{Refusal}
use Rattle.records.specs.declared.refusal.Refusal.TheVariants as refusal
use Rattle.records.specs.Finite.{any}
use Rattle.records.specs.Layout.{schema_layout, entries, left_at, word_digits, max_classes, max_attributes, max_constants, max_axioms}
use Rattle.records.specs.SchemaRecord.{signature_of, axiom_kind, schema_of}
use Rattle.records.specs.Shape.{misshapen, outside}
use Rattle.records.specs.State.{is_loose}

abbrev pub oversized : Signature → ℕ → Bool
oversized s n =
    ltb max_classes s.classes || ltb max_attributes s.attributes || ltb max_constants s.constants || ltb max_axioms n

-- 1. The schema has fewer words than its sizes, a size above its limit, or a length other than its entries make.
unfoldable pub refusal_1 : List ℕ → Bool
refusal_1 w = oversized (signature_of w) (entries schema_layout w) || misshapen schema_layout w

-- constant k is marked loose and not declared
abbrev pub undeclared_loose : Signature → ℕ → Bool
undeclared_loose s k = is_loose s k && leb s.constants k

-- 14. A bit marks a constant that is not declared. (Document 02, note 5; checked directly after 1.)
unfoldable pub refusal_14 : List ℕ → Bool
refusal_14 w = any word_digits (undeclared_loose (signature_of w))

-- the axiom names declared classes and attributes alone
abbrev pub declares : Signature → Axiom → Bool
declares s (Subclass A B) = ltb A s.classes && ltb B s.classes
declares s (Typing A P B) = ltb A s.classes && ltb P s.attributes && ltb B s.classes
declares s (Necessary A P) = ltb A s.classes && ltb P s.attributes
declares s (Single A P) = ltb A s.classes && ltb P s.attributes
declares s (Relates P A B) = ltb P s.attributes && ltb A s.classes && ltb B s.classes

unfoldable pub faulty_axiom : Signature → List ℕ → ℕ → Bool
faulty_axiom s w i = outside 1 5 (axiom_kind (left_at schema_layout w i)) || not (declares s ((schema_of w).axiom_at i))

-- 2. An axiom has a kind outside 1 to 5 or names a class or attribute that is not declared.
unfoldable pub refusal_2 : List ℕ → Bool
refusal_2 w = any (entries schema_layout w) (faulty_axiom (signature_of w) w)

unfoldable pub schema_answer : List ℕ → Result Signature Refusal
schema_answer w =
    cond (refusal_1 w) (Err refusal.SchemaShape)
    (cond (refusal_14 w) (Err refusal.SchemaLoose)
    (cond (refusal_2 w) (Err refusal.SchemaAxiom)
    (Ok (signature_of w))))

-- A record is accepted if it gets none of its refusals.
abbrev pub AcceptedSchema : List ℕ → Type 0
AcceptedSchema w = schema_answer w ≡ Ok (signature_of w)
