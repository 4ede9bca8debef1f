-- Which objects and which facts the search asks about at an axiom.
use Rattle.std.specs.Prelude.{ℕ, ◌≡◌, ◌+◌, ◌^◌, ◌<◌, List}
use Rattle.std.specs.declared.ops.Range.{Range}
use Rattle.records.specs.declared.schema.Axiom.{Axiom}
use Rattle.records.specs.declared.schema.Axiom.TheVariants.{Subclass, Typing, Necessary, Single, Relates}
use Rattle.records.specs.Layout.{attribute_kinds}
use Rattle.index.specs.Kinds.{KindParts}

-- how many of n objects; none where only pairs can break the axiom
abbrev pub objects_asked : Axiom → ℕ → ℕ
objects_asked (Subclass A B) n = n
objects_asked (Typing A P B) n = 0
objects_asked (Necessary A P) n = n
objects_asked (Single A P) n = 0
objects_asked (Relates P A B) n = 0

-- the facts of kind k stand there
pub record KindRow (w : List ℕ) (k : ℕ) (row : Range ℕ) : Type 0 where
  pub first : KindParts w k row.start row.start
  pub last : KindParts w (k + 1) row.end row.end
  pub few : row.end < 2 ^ 16

-- the facts of the axiom's attribute; none where only objects can break the axiom
abbrev pub PairsAsked : List ℕ → Axiom → Range ℕ → Type 0
PairsAsked w (Subclass A B) row = (row.start ≡ 0) × (row.end ≡ 0)
PairsAsked w (Typing A P B) row = KindRow w (attribute_kinds + P) row
PairsAsked w (Necessary A P) row = (row.start ≡ 0) × (row.end ≡ 0)
PairsAsked w (Single A P) row = KindRow w (attribute_kinds + P) row
PairsAsked w (Relates P A B) row = KindRow w (attribute_kinds + P) row
