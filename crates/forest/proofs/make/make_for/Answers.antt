-- The value of s, then those of the list; before a backward step none.
use Rattle.forest.proofs.GrowLaws.{make_first, make_rest, made_for_lem, made_back}
use Rattle.forest.proofs.make.make_for.Goals as goal

pub returns-then-step : goal.returns-then-step
returns-then-step c = made_back c.if-step.true c.requires

pub make-n-requires : goal.make-n-requires
make-n-requires c = make_first c.if-step.false c.requires c.needs_mask-mask.ensures

pub returns : goal.returns
returns c = made_for_lem c.if-step.false c.requires c.needs_mask-mask.ensures _ _ c.make-n.ensures _ _ (rw (← c.standing.ensures) c.make_all.ensures)

pub make_all-requires : goal.make_all-requires
make_all-requires c = rw c.standing.ensures (make_rest c.if-step.false c.requires c.needs_mask-mask.ensures _ _ c.make-n.ensures)
