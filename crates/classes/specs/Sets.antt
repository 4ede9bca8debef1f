-- A class set of declared classes alone.
use Rattle.std.specs.Prelude.{ℕ, ◌^◌, ◌<◌, List}
use Rattle.records.specs.SchemaRecord.{schema_of}

abbrev pub DeclaredSet : List ℕ → ℕ → Type 0
DeclaredSet w c = c < 2 ^ (schema_of w).signature.classes
