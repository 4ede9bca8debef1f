-- The two arms.
use borrow.Author.Rules.{rules}
use Rattle.candidate.proofs.WriteLaws.{if_room, if_on}
use Rattle.candidate.specs.Writing.{Room}
use Rattle.candidate.proofs.put.put_if.Goals as goal

pub offset_bounds-out-count : goal.offset_bounds-out-count
unfolding Room
offset_bounds-out-count c = search rules

pub bounds-out-count : goal.bounds-out-count
bounds-out-count c = if_room _ _ _ _ c.requires c.if-not-test.false

pub overflow_add-result : goal.overflow_add-result
unfolding Room
overflow_add-result c = search rules

pub returns : goal.returns
returns c = if_on _ _ _ _ c.requires c.if-not-test.false
