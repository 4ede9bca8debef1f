-- Each turn is a round (Round of SettleLaws).
use mathlib.Core.Path.{ap, sym, ◌∙◌}
use Rattle.chase.specs.Primary.{pass, weight}
use Rattle.primary.specs.Asked.{query_task}
use Rattle.primary.proofs.SettleLaws.{begins_ok, round_first, round_ok, round_next, round_less, round_last, ok_formed, asks_formed, room, ready, passed_is, passed_ok}
use Rattle.primary.proofs.settle.settle.Goals as goal

pub weight-last-requires : goal.weight-last-requires
weight-last-requires c =
    let (asks, begins) = c.requires in room _ _ _ _ _ asks _ _ (begins_ok _ (asks_formed _ _ _ _ _ asks) _ begins)

pub pass-requires : goal.pass-requires
pass-requires c =
    let (asks, begins) = c.requires in
    ready _ _ _ _ _ asks _ _ (begins_ok _ (asks_formed _ _ _ _ _ asks) _ begins) _ c.domains-table.ensures

pub weight-next-requires : goal.weight-next-requires
weight-next-requires c =
    let (asks, begins) = c.requires in
    let ok = begins_ok _ (asks_formed _ _ _ _ _ asks) _ begins in
    room _ _ _ _ _ asks _ _ (passed_ok _ _ _ _ _ asks _ _ ok _ _ c.pass.ensures)

pub loop-next-init : goal.loop-next-init
loop-next-init c =
    let a = c.args in
    let (asks, begins) = c.requires in
    let formed = asks_formed _ _ _ _ _ asks in
    round_first _ formed _ _ _ (c.weight-last.ensures ∙ ap weight begins)
    (passed_is _ _ _ _ _ asks _ _ (begins_ok _ formed _ begins) _ _ c.pass.ensures
    ∙ ap (pass (query_task a.schema.now a.query.now)) begins)
    c.weight-next.ensures

pub pass-requires-in-loop-next : goal.pass-requires-in-loop-next
pass-requires-in-loop-next c =
    let asks = c.requires.0 in
    ready _ _ _ _ _ asks _ _ (round_ok _ (asks_formed _ _ _ _ _ asks) _ _ _ c.loop-next.invariant) _ c.domains-table.ensures

pub weight-next-requires-in-loop-next : goal.weight-next-requires-in-loop-next
weight-next-requires-in-loop-next c =
    let asks = c.requires.0 in
    let ok = round_ok _ (asks_formed _ _ _ _ _ asks) _ _ _ c.loop-next.invariant in
    room _ _ _ _ _ asks _ _ (passed_ok _ _ _ _ _ asks _ _ ok _ _ c.pass-in-loop-next.ensures)

pub loop-next-smaller : goal.loop-next-smaller
loop-next-smaller c =
    round_less _ (asks_formed _ _ _ _ _ c.requires.0) _ _ _ c.loop-next.invariant c.loop-next-test.true

pub loop-next-preserved : goal.loop-next-preserved
loop-next-preserved c =
    let asks = c.requires.0 in
    let formed = asks_formed _ _ _ _ _ asks in
    let round = c.loop-next.invariant in
    round_next _ formed _ _ _ _ _ round (passed_is _ _ _ _ _ asks _ _ (round_ok _ formed _ _ _ round) _ _ c.pass-in-loop-next.ensures) c.weight-next-in-loop-next.ensures

pub shape_of-reps : goal.shape_of-reps
shape_of-reps c =
    let (asks, begins) = c.requires in
    let formed = asks_formed _ _ _ _ _ asks in
    (round_ok _ formed _ _ _ c.loop-next.invariant).reps ∙ sym (begins_ok _ formed _ begins).reps

pub shape_of-sets : goal.shape_of-sets
shape_of-sets c =
    let (asks, begins) = c.requires in
    let formed = asks_formed _ _ _ _ _ asks in
    (round_ok _ formed _ _ _ c.loop-next.invariant).sets ∙ sym (begins_ok _ formed _ begins).sets

pub returns : goal.returns
returns c =
    let formed = asks_formed _ _ _ _ _ c.requires.0 in
    let round = c.loop-next.invariant in
    let ok = round_ok _ formed _ _ _ round in
    record { value = round_last _ formed _ _ _ round c.loop-next-test.false; formed = ok_formed _ _ _ ok; size = ok.reps }
