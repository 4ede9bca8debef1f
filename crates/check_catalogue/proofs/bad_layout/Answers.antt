-- By the count, and then by the length.
use borrow.Author.Tests.{ltb-false}
use lib.Dec.{ltb}
use Rattle.records.specs.Layout.{max_views}
use Rattle.records.proofs.General.BoolLaws.{or_false_right}
use Rattle.records.proofs.CatalogueLaws.{bad_count, bad_length}
use Rattle.check_catalogue.proofs.bad_layout.Goals as goal

pub returns-then-n : goal.returns-then-n
returns-then-n c = bad_count _ (rw c.views-n.ensures.value at c.if-n.true)

pub start_at-requires : goal.start_at-requires
start_at-requires c =
    let n = c.views-n.result in
    ltb-false max_views n (or_false_right (ltb n 1) (ltb max_views n) c.if-n.false)

pub returns : goal.returns
returns c =
    rw (c.start_at.ensures, c.views-n.ensures.value)
    (bad_length _ (rw c.views-n.ensures.value at c.if-n.false))
