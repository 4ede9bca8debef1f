-- The nodes passed are laid.
use native.Mathlib.Omega.{arith}
use mathlib.Core.Path.{◌∙◌, ap}
use Rattle.records.proofs.General.BoolLaws.{byte_small}
use Rattle.ground.proofs.NumberLaws.{grounds_none, grounds_room, grounds_more, grounds_all, live_any}
use Rattle.ground.specs.Objects.{ground_word}
use Rattle.ground.proofs.lay.lay.Goals as goal

pub loop-i-init : goal.loop-i-init
loop-i-init c = grounds_none _ _ c.requires.2

pub offset_bounds-objects-count : goal.offset_bounds-objects-count
offset_bounds-objects-count c = omega (arith, grounds_room _ _ _ _ (omega arith) c.loop-i.invariant)

pub bounds-objects-count : goal.bounds-objects-count
bounds-objects-count c = omega (arith, grounds_room _ _ _ _ (omega arith) c.loop-i.invariant)

pub overflow_add-count : goal.overflow_add-count
overflow_add-count c = omega (arith, grounds_room _ _ _ _ (omega arith) c.loop-i.invariant, byte_small c.live.result)

pub loop-i-preserved : goal.loop-i-preserved
loop-i-preserved c =
    rw c.from-count.ensures
    (grounds_more _ _ _ _ _ _ (omega arith) c.loop-i.invariant (c.ground_word.ensures ∙ ap ground_word c.set_of.ensures) (c.live.ensures ∙ live_any _ _ _))

pub returns : goal.returns
returns c = grounds_all _ _ _ _ _ (omega arith) c.loop-i.invariant
