-- It is to come, and none of the views precedes.
use mathlib.Core.Bool.{◌&&◌}
use mathlib.Core.Path.{refl}
use Rattle.std.proofs.Common.{rules}
use Rattle.records.proofs.General.RangeLaws.{any_below}
use Rattle.catalogue.specs.Order.{narrower, ready}
use Rattle.catalogue.specs.Helpers.{in_row, unplaced}
use Rattle.catalogue.proofs.arrange.ready.Goals as goal

pub returns-then-not-has : goal.returns-then-not-has
unfolding ready
returns-then-not-has c =
    let rows = in_row c.args.rows.now in
    let blocked = any_below {test = λ j. unplaced c.args.placed j && narrower rows j c.args.i} c.any.ensures.ran (λ x b q k. search rules) in
    rw (← c.has.ensures, c.if-not-has.true, ← blocked) refl

pub returns-else-not-has : goal.returns-else-not-has
unfolding ready
returns-else-not-has c = rw (← c.has.ensures, c.if-not-has.false) refl
