-- The table of the objects passed.
use native.Mathlib.Nat.{le_antisymm}
use native.Mathlib.Omega.{arith}
use mathlib.Core.Path.{refl, ap}
use Rattle.forest.specs.Kept.{number}
use Rattle.candidate.proofs.TableLaws.{kids_none, place_bound, kids_made, kids_passed, kids_all}
use Rattle.candidate.proofs.tables.kids.Goals as goal
use Rattle.candidate.proofs.tables.kids.Goals.{in-Some, in_default}

pub loop-e-init : goal.loop-e-init
loop-e-init c = (omega arith, c.requires.laid.ground, kids_none _ _ _ _ _ refl c.requires)

pub offset_bounds-table-maker : goal.offset_bounds-table-maker
offset_bounds-table-maker c =
    let q = rw c.in-Some.is at (place_bound _ _ _ _ _ _ c.requires c.loop-e.invariant.0 c.loop-e-test.true c.parent.ensures) in omega (arith, q)

pub bounds-table-maker : goal.bounds-table-maker
bounds-table-maker c =
    let q = rw c.in-Some.is at (place_bound _ _ _ _ _ _ c.requires c.loop-e.invariant.0 c.loop-e-test.true c.parent.ensures) in omega (arith, q)

pub loop-e-preserved : goal.loop-e-preserved
loop-e-preserved c = (
  omega arith,
  omega arith,
  elim c.match-parent.branch [
    | in-Some w ↦
        rw w.table-is
        (kids_made _ _ _ _ _ _ c.requires c.loop-e.invariant.0 c.loop-e-test.true c.parent.ensures _ _ (ap number w.in-Some.is) c.loop-e.invariant.2)
    | in_default w ↦
        rw w.table-is
        (kids_passed _ _ _ _ _ _ c.requires c.loop-e.invariant.0 c.loop-e-test.true c.parent.ensures _ (ap number w.in_default.is) c.loop-e.invariant.2)
  ],
)

pub returns : goal.returns
returns c = kids_all _ _ _ _ _ _ (le_antisymm c.loop-e.invariant.1 c.loop-e-test.false) c.loop-e.invariant.2
