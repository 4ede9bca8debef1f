-- The relation holds what the facts passed carry of the spare one (Stepped), for the step whose facts and ends these are
-- (Facing); before the row of the kind and after it there is nothing.
use Rattle.paths.proofs.RoomLaws.{room_same}
use Rattle.paths.proofs.RelationLaws.{stepped_none, stepped_more, stepped_all}
use Rattle.paths.proofs.StepLaws.{Facing, facing_few, facing_inside}
use mathlib.Core.Path.{refl, ◌∙◌}
use native.Mathlib.Omega.{arith}
use Rattle.paths.proofs.relation.advance.Goals as goal

pub loop-i-init : goal.loop-i-init
loop-i-init c =
    let b = c.args.bases in
    (omega arith, c.first_of_kind-from.ensures.within, refl, λ x f. stepped_none {x = x} {b = b} c.objects.ensures.value c.clear.ensures f.first)

pub follow-requires : goal.follow-requires
follow-requires c = let f : Facing c.args.state.now c.first_of_kind-from.result c.first_of_kind-to.result c.ends_of-ends.result c.args.step = record { ok = c.requires.followable; first = c.first_of_kind-from.ensures; last = c.first_of_kind-to.ensures; ends = c.ends_of-ends.ensures } in
    let (origins, targets) = facing_few f c.loop-i-test.true in
    let (target, origin) = facing_inside f c.loop-i-test.true in
    record { i_bound = origins; i_bound_2 = targets; i_bound_3 = target; i_bound_4 = origin; room = room_same c.requires.room (c.loop-i.invariant.2 ∙ c.clear.ensures.size) }

pub loop-i-preserved : goal.loop-i-preserved
loop-i-preserved c =
    let z = c.loop-i.invariant in
    (omega arith, omega (arith, c.loop-i-test.true, c.first_of_kind-to.ensures.within), c.follow.ensures.size ∙ z.2, λ x f. stepped_more f z.0 c.loop-i-test.true (z.3 x f) (room_same c.requires.room c.clear.ensures.size) c.row-set.ensures c.follow.ensures)

pub returns : goal.returns
returns c =
    let z = c.loop-i.invariant in
    let x = c.args.step in
    stepped_all c.objects.ensures.value c.clear.ensures c.requires.room (c.requires.followable.inside x.backward) (z.3 x (record { ok = c.requires.followable; first = c.first_of_kind-from.ensures; last = c.first_of_kind-to.ensures; ends = c.ends_of-ends.ensures })) c.first_of_kind-to.ensures c.loop-i-test.false z.1
