-- The layout numbers of the definition.
use Rattle.records.specs.Layout.{schema_layout}
use borrow.Author.Rules.{rules}
use mathlib.Core.Path.{refl}
use Rattle.records.proofs.schema.schema_layout.Goals as goal

pub returns : goal.returns
unfolding schema_layout
returns c = record { value = refl; small = search rules }
