-- The set holds the origins of the facts passed (Origins), for the step whose facts and ends these are (Facing); before the row
-- of the kind and after it there are none.
use Rattle.paths.proofs.StepLaws.{origins_none, origins_more, origins_all, Facing, facing_few}
use mathlib.Core.Path.{refl, ◌∙◌}
use native.Mathlib.Omega.{arith}
use Rattle.paths.proofs.reaching.origins.Goals as goal

pub loop-i-init : goal.loop-i-init
loop-i-init c = (omega arith, c.first_of_kind-from.ensures.within, refl, λ x f. origins_none f.first)

pub lead-requires : goal.lead-requires
lead-requires c = let f : Facing c.args.state.now c.first_of_kind-from.result c.first_of_kind-to.result c.ends_of-ends.result c.args.step = record { ok = c.requires.followable; first = c.first_of_kind-from.ensures; last = c.first_of_kind-to.ensures; ends = c.ends_of-ends.ensures } in
    let (origins, targets) = facing_few f c.loop-i-test.true in
    record { i_bound = origins; i_bound_2 = targets; out_len = c.loop-i.invariant.2 }

pub loop-i-preserved : goal.loop-i-preserved
loop-i-preserved c =
    let z = c.loop-i.invariant in
    (omega arith, omega (arith, c.loop-i-test.true, c.first_of_kind-to.ensures.within), c.lead.ensures.size ∙ z.2, λ x f. origins_more f z.0 c.loop-i-test.true (z.3 x f) c.row-landed.ensures c.shared_row-both.ensures c.lead.ensures)

pub returns : goal.returns
returns c =
    let z = c.loop-i.invariant in
    origins_all (z.3 c.args.step (record { ok = c.requires.followable; first = c.first_of_kind-from.ensures; last = c.first_of_kind-to.ensures; ends = c.ends_of-ends.ensures })) c.first_of_kind-to.ensures c.loop-i-test.false z.1
