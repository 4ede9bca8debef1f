-- What the whole path leads to is what its beginning leads to in the set (Reaching); the beginning is a token shorter at least
-- at each turn, and in the end it is empty.
use Rattle.paths.proofs.WalkLaws.{walk_few, walk_room, walk_suc, walk_followable, walk_before, reach_starts, reach_on, reach_ends}
use Rattle.records.proofs.ReadingLaws.{path_some}
use Rattle.records.proofs.PileLaws.{start_le}
use Rattle.paths.proofs.reaching.reaching.Goals as goal
use mathlib.Core.Path.{sym, ◌∙◌}
use native.Mathlib.Omega.{arith}

pub everything-set-requires : goal.everything-set-requires
everything-set-requires c = omega (arith, walk_room c.requires, c.objects.ensures.value)

pub overflow_sub-at : goal.overflow_sub-at
overflow_sub-at c = path_some _ _ c.requires.path

pub loop-step-init : goal.loop-step-init
loop-step-init c = (walk_suc c.requires, reach_starts c.requires c.objects.ensures.value c.everything-set.ensures)

pub step_at-requires : goal.step_at-requires
step_at-requires c = omega (arith, walk_few c.loop-step.invariant.0)

pub origins-set-requires-clause-followable : goal.origins-set-requires-clause-followable
origins-set-requires-clause-followable c =
    walk_followable c.loop-step.invariant.0 c.type_inv.words _ (sym c.step_at.ensures ∙ c.in-Some.is)

pub start_of-at-requires : goal.start_of-at-requires
start_of-at-requires c = omega (arith, walk_few c.loop-step.invariant.0)

pub overflow_sub-at-in-Some : goal.overflow_sub-at-in-Some
overflow_sub-at-in-Some c =
    path_some _ _ (walk_before c.loop-step.invariant.0 (sym c.step_at.ensures ∙ c.in-Some.is) c.start_of-at.ensures).path

pub loop-step-smaller : goal.loop-step-smaller
loop-step-smaller c =
    let b = walk_before c.loop-step.invariant.0 (sym c.step_at.ensures ∙ c.in-Some.is) c.start_of-at.ensures in
    omega (arith, c.start_of-at.ensures, start_le c.args.words.now c.loop-step.at 1, path_some _ _ b.path)

pub loop-step-preserved : goal.loop-step-preserved
loop-step-preserved c =
    let (z, r) = c.loop-step.invariant in
    let q = sym c.step_at.ensures ∙ c.in-Some.is in
    (walk_suc (walk_before z q c.start_of-at.ensures), reach_on z q c.start_of-at.ensures (walk_followable z c.type_inv.words _ q) c.origins-set.ensures r)

pub returns : goal.returns
returns c = reach_ends c.loop-step.invariant.0 (sym c.step_at.ensures ∙ c.in_default.is) c.loop-step.invariant.1
