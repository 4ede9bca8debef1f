-- The first view that is ready.
use Rattle.std.proofs.Common.{rules}
use Rattle.records.proofs.General.RangeLaws.{any_least, find_below}
use Rattle.catalogue.specs.Order.{ready, next}
use Rattle.catalogue.specs.Helpers.{in_row, unplaced}
use Rattle.catalogue.proofs.arrange.next.Goals as goal

pub returns : goal.returns
unfolding next
returns c =
    let test = ready c.args.n (in_row c.args.rows.now) (unplaced c.args.placed) in
    rw (any_least test c.args.n) at (find_below _ {test = test} c.find.ensures.ran (λ x b q k. search rules))
