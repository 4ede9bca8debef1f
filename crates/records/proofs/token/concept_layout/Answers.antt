-- The layout numbers of the definition.
use Rattle.records.specs.Layout.{concept_layout}
use borrow.Author.Rules.{rules}
use mathlib.Core.Path.{refl}
use Rattle.records.proofs.token.concept_layout.Goals as goal

pub returns : goal.returns
unfolding concept_layout
returns c = record { value = refl; small = search rules }
