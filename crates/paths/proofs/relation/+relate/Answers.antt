-- The path before a step is shorter, so the place where it ends is the measure. The step takes its relation, in the spare
-- rows, to that of the whole.
use Rattle.paths.proofs.WalkLaws.{walk_few, walk_last, walk_suc, walk_followable, walk_before, relate_on, relate_starts, related_at}
use Rattle.paths.proofs.RoomLaws.{room_turned}
use Rattle.records.proofs.ReadingLaws.{path_some}
use Rattle.records.proofs.PileLaws.{start_le}
use Rattle.paths.proofs.relation.+relate.Goals as goal
use mathlib.Core.Path.{sym, ◌∙◌}
use native.Mathlib.Omega.{arith}
use Prim.Native.Nat.{◌-◌}

pub overflow_sub-at : goal.overflow_sub-at
overflow_sub-at t c = path_some _ _ c.requires.walk.path

pub step_at-requires : goal.step_at-requires
step_at-requires t c = omega (arith, walk_few c.requires.walk)

pub start_of-requires : goal.start_of-requires
start_of-requires t c = omega (arith, walk_few c.requires.walk)

pub relate-requires : goal.relate-requires
relate-requires t c =
    let z = c.requires.walk in
    let b = walk_before (walk_suc z) (sym c.step_at.ensures ∙ c.in-Some.is) c.start_of.ensures in
    (omega (arith, c.decreases, c.start_of.ensures, start_le c.args.words.now (c.args.end - 1) 1, path_some _ _ z.path), (b, room_turned c.requires.room))

pub advance-requires-clause-followable : goal.advance-requires-clause-followable
advance-requires-clause-followable t c = walk_followable c.requires.walk c.type_inv.words _ (sym c.step_at.ensures ∙ c.in-Some.is)

pub advance-requires-clause-set_words_in_bounds : goal.advance-requires-clause-set_words_in_bounds
advance-requires-clause-set_words_in_bounds t c = walk_last c.requires.walk (path_some _ _ c.requires.walk.path)

pub returns-in-Some : goal.returns-in-Some
returns-in-Some t c =
    let z = c.requires.walk in
    let q = sym c.step_at.ensures ∙ c.in-Some.is in
    related_at z (relate_on {rel = c.args.bases.rel} {spare = c.args.bases.spare} {k = c.args.bases.blocks} (walk_suc z) q c.start_of.ensures (walk_followable z c.type_inv.words _ q) c.relate.ensures c.advance.ensures)

pub returns-in_default : goal.returns-in_default
returns-in_default t c =
    let z = c.requires.walk in
    related_at z (relate_starts {b = c.args.bases} (walk_suc z) (sym c.step_at.ensures ∙ c.in_default.is) c.objects.ensures.value c.identity.ensures)
