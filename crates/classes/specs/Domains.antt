-- The domains of all attributes as a table; what one axiom adds to a class set by it.
use Rattle.std.specs.Prelude.{ℕ, List, ◌≡◌, length, get_or}
use Rattle.records.specs.declared.schema.Axiom.{Axiom}
use Rattle.records.specs.Layout.{max_attributes}
use Rattle.records.specs.SchemaRecord.{schema_of}
use Rattle.chase.specs.Axioms.{domain, raise_by}

-- the table of the record w; an attribute past its end has no domain
pub record DomainTable (w table : List ℕ) : Type 0 where
  pub size : length table ≡ max_attributes
  pub sets : (P : ℕ) → get_or table P 0 ≡ domain (schema_of w) P

-- r is what the axiom adds to the classes of c, for whichever record the table is of
abbrev pub RaisesBy : List ℕ → ℕ → Axiom → ℕ → Type 0
RaisesBy table c x r = (w : List ℕ) → DomainTable w table → r ≡ raise_by (schema_of w) c x
