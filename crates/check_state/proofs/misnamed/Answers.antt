-- Some constant is misnamed; one past the last has no fact.
use Rattle.std.proofs.Common.{rules}
use borrow.Author.Tests.{lt-ltb, le-ltb}
use Rattle.records.proofs.General.RangeLaws.{any_below}
use Rattle.check_state.specs.Scan.{slots, misnamed}
use Rattle.check_state.proofs.misnamed.Goals as goal

pub returns-then-s-gt-SLOTS : goal.returns-then-s-gt-SLOTS
unfolding misnamed
returns-then-s-gt-SLOTS c = rw (lt-ltb slots _ c.if-s-gt-SLOTS.true)

pub returns : goal.returns
unfolding misnamed
returns c = rw (le-ltb slots c.args.s.constants c.if-s-gt-SLOTS.false) (any_below c.any.ensures.ran (λ x b q k. search rules))
