-- Document 02, note 2: what a concept names. Constants and marks are no names, and neither is what the axioms mention.
use Rattle.std.specs.Prelude.{ℕ, ◌<◌, List, Bool, false, ◌⊎◌, ◌↔◌, ◌≡◌, eqb}
use Rattle.std.proofs.Math.Bool.{So}
use Rattle.std.specs.Int.Count.{ones}
use Rattle.records.specs.declared.token.Token.{Token}
use Rattle.records.specs.declared.token.Token.TheVariants.{Class, Everything, Constant, Both, Empty, Forward, Backward, Reached, Common, Mark}
use Rattle.records.specs.declared.named.Named.{Named}
use Rattle.records.specs.Finite.{any, count, bit, set_of}
use Rattle.records.specs.Layout.{concept_layout, entries, max_classes, max_attributes}
use Rattle.records.specs.ConceptRecord.{token_at}

-- A class is named if some token of sort 1 has it as argument,
abbrev pub NamesClass : List ℕ → ℕ → Type 0
NamesClass w A = (i : ℕ) × (i < entries concept_layout w) × (token_at w i ≡ Class A)

-- and an attribute if some token of sort 6 or 7 has.
abbrev pub NamesAttribute : List ℕ → ℕ → Type 0
NamesAttribute w P = (i : ℕ) × (i < entries concept_layout w) × ((token_at w i ≡ Forward P) ⊎ (token_at w i ≡ Backward P))

-- The same as tests that compute: of one token, and of all.
abbrev pub has_class : ℕ → Token → Bool
has_class A (Class B) = eqb A B
has_class A Everything = false
has_class A (Constant a) = false
has_class A Both = false
has_class A Empty = false
has_class A (Forward P) = false
has_class A (Backward P) = false
has_class A Reached = false
has_class A Common = false
has_class A (Mark k) = false

abbrev pub has_attribute : ℕ → Token → Bool
has_attribute P (Class A) = false
has_attribute P Everything = false
has_attribute P (Constant a) = false
has_attribute P Both = false
has_attribute P Empty = false
has_attribute P (Forward Q) = eqb P Q
has_attribute P (Backward Q) = eqb P Q
has_attribute P Reached = false
has_attribute P Common = false
has_attribute P (Mark k) = false

unfoldable pub class_named : List ℕ → ℕ → Bool
class_named w A = any (entries concept_layout w) λ i. has_class A (token_at w i)

unfoldable pub attribute_named : List ℕ → ℕ → Bool
attribute_named w P = any (entries concept_layout w) λ i. has_attribute P (token_at w i)

-- The sets of both (words of 24 and of 8 bits), and how many classes there are.
unfoldable pub named_in : List ℕ → Named
named_in w =
    record {
      classes = set_of max_classes (class_named w);
      attributes = set_of max_attributes (attribute_named w);
      count = count max_classes (class_named w);
    }

-- What they say of an accepted concept, in the sentences above.
pub record NamedExactly (w : List ℕ) (r : Named) : Type 0 where
  pub classes : (A : ℕ) → So (bit r.classes A) ↔ NamesClass w A
  pub attributes : (P : ℕ) → So (bit r.attributes P) ↔ NamesAttribute w P
  pub number : r.count ≡ ones r.classes
