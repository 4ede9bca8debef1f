-- The list after the step, of the objects passed.
use native.Mathlib.Omega.{arith}
use Rattle.forest.proofs.PlaceLaws.{follows_none, follows_more, follows_all}
use Rattle.forest.proofs.places.next.Goals as goal

pub loop-d-init : goal.loop-d-init
loop-d-init c = follows_none c.begin-none.ensures c.hop.ensures c.push-after.ensures

pub loop-d-preserved : goal.loop-d-preserved
loop-d-preserved c =
    let some = rw c.standing-d-items.ensures at c.loop-d-test.true in
    let at = rw c.standing-d-items.ensures at c.from.ensures in
    follows_more c.requires.0.stands some at c.loop-d.invariant c.hop-in-loop-d.ensures c.push-after-in-loop-d.ensures

pub returns : goal.returns
returns c =
    let q = rw c.standing-d-items.ensures at c.loop-d-test.false in
    let p = rw c.standing-d-items.ensures at c.loop-d.auto.d-index-end in
    follows_all c.requires.0.stands p (omega arith) c.loop-d.invariant
