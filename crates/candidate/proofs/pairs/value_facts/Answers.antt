-- One pair, or none.
use borrow.Author.Rules.{rules}
use Rattle.candidate.proofs.PairLaws.{value_room, value_on}
use Rattle.candidate.specs.Writing.{Room}
use Rattle.candidate.proofs.pairs.value_facts.Goals as goal

pub bounds-out-count : goal.bounds-out-count
bounds-out-count c = value_room _ _ _ _ _ (rw c.in-Some.is at c.requires.room)

pub offset_bounds-out-count : goal.offset_bounds-out-count
unfolding Room
offset_bounds-out-count c = search rules

pub overflow_add-result : goal.overflow_add-result
unfolding Room
overflow_add-result c = search rules

pub returns-in-Some : goal.returns-in-Some
returns-in-Some c = rw c.in-Some.is (value_on _ _ _ _ _ _ c.fact.ensures (rw c.in-Some.is at c.requires.room))
