-- The layout numbers of the definition.
use Rattle.records.specs.Layout.{state_layout}
use borrow.Author.Rules.{rules}
use mathlib.Core.Path.{refl}
use Rattle.records.proofs.state.state_layout.Goals as goal

pub returns : goal.returns
unfolding state_layout
returns c = record { value = refl; small = search rules }
