-- Document 02, note 6: which marks may stand in a concept, and which of them it uses.
use Rattle.std.specs.Prelude.{ℕ, ◌<◌, List, Bool, false, ◌&&◌, ◌≡◌, eqb, ltb}
use Rattle.records.specs.declared.schema.Signature.{Signature}
use Rattle.records.specs.declared.token.Token.{Token}
use Rattle.records.specs.declared.token.Token.TheVariants.{Class, Everything, Constant, Both, Empty, Forward, Backward, Reached, Common, Mark}
use Rattle.records.specs.Finite.{any, bit, set_of}
use Rattle.records.specs.Layout.{concept_layout, entries, max_marks}
use Rattle.records.specs.ConceptRecord.{token_at}

-- the signature with this set of marks
abbrev pub allowing : ℕ → Signature → Signature
allowing marks s =
    record { classes = s.classes; attributes = s.attributes; constants = s.constants; loose = s.loose; marks = marks }

-- mark k is in the set
abbrev pub among : ℕ → ℕ → Bool
among marks k = ltb k max_marks && bit marks k

abbrev pub allows : Signature → ℕ → Bool
allows s k = among s.marks k

-- A mark is used if some token of sort 10 has it as argument.
abbrev pub UsesMark : List ℕ → ℕ → Type 0
UsesMark w k = (i : ℕ) × (i < entries concept_layout w) × (token_at w i ≡ Mark k)

-- The same as tests that compute: of one token, and of all.
abbrev pub has_mark : ℕ → Token → Bool
has_mark k (Class A) = false
has_mark k Everything = false
has_mark k (Constant a) = false
has_mark k Both = false
has_mark k Empty = false
has_mark k (Forward P) = false
has_mark k (Backward P) = false
has_mark k Reached = false
has_mark k Common = false
has_mark k (Mark j) = eqb k j

unfoldable pub mark_used : List ℕ → ℕ → Bool
mark_used w k = any (entries concept_layout w) λ i. has_mark k (token_at w i)

-- the set of the marks that a concept uses
unfoldable pub used_marks : List ℕ → ℕ
used_marks w = set_of max_marks (mark_used w)
