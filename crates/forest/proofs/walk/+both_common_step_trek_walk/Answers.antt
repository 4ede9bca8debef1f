-- The span of tokens falls: the measure is twice the place where an item ends. A token's own function stands between, and its
-- measure is one more than that of the operand that ends at its token. Each need cites what the token's operands may do, or
-- what they leave (WalkLaws).
use native.Mathlib.Omega.{arith}
use Prim.Native.Nat.{◌-◌}
use mathlib.Core.Path.{◌≡◌, sym, ◌∙◌}
use Rattle.records.specs.Concept.{direction_of}
use Rattle.records.specs.ConceptRecord.{token_at}
use Rattle.records.specs.Helpers.Reading.{step_token}
use Rattle.records.proofs.PileLaws.{start_le}
use Rattle.records.proofs.ReadingLaws.{concept_not_path, path_not_concept}
use Rattle.forest.proofs.WalkLaws.{both_first, both_last, both_walked, reached_path, reached_walked, common_first, common_last, common_walked, step_path, step_make, step_next, step_walk, step_trekked, walk_after, walk_short, walk_from, walk_to, walk_leaf, trek_after, trek_short, trek_from, trek_to, trek_leaf}
use Rattle.forest.proofs.walk.+both_common_step_trek_walk.Goals as goal
use Rattle.forest.proofs.walk.+both_common_step_trek_walk.Goals.{trek-in-Forward, trek-in-Backward}

pub both-start_of-requires : goal.both-start_of-requires
both-start_of-requires t c = omega (arith, walk_short c.requires.0)

pub both-walk-n-requires : goal.both-walk-n-requires
both-walk-n-requires t c = (omega (arith, c.decreases, c.start_of.ensures, start_le c.args.view.now c.args.at 1), rw c.start_of.ensures (both_first c.requires.0 c.requires.1))

pub both-walk-requires : goal.both-walk-requires
both-walk-requires t c = (omega (arith, c.decreases), both_last c.requires.0 c.requires.1 (rw c.start_of.ensures at c.walk-n.ensures))

pub both-returns : goal.both-returns
both-returns t c = both_walked c.requires.0 c.requires.1 (rw c.start_of.ensures at c.walk-n.ensures) c.walk.ensures

pub common-start_of-requires : goal.common-start_of-requires
common-start_of-requires t c = omega (arith, walk_short c.requires.0)

pub common-trek-first-requires : goal.common-trek-first-requires
common-trek-first-requires t c = (omega (arith, c.decreases, c.start_of.ensures, start_le c.args.view.now c.args.at 1), rw c.start_of.ensures (common_first c.requires.0 c.requires.1))

pub common-trek-last-requires : goal.common-trek-last-requires
common-trek-last-requires t c = (omega (arith, c.decreases), common_last c.requires.0 c.requires.1 (rw c.start_of.ensures at c.trek-first.ensures))

pub common-returns : goal.common-returns
common-returns t c = common_walked c.requires.0 c.requires.1 (rw c.start_of.ensures at c.trek-first.ensures) c.trek-last.ensures

pub step-start_of-requires : goal.step-start_of-requires
step-start_of-requires t c = omega (arith, trek_short c.requires.0)

pub step-trek-there-requires : goal.step-trek-there-requires
step-trek-there-requires t c = (omega (arith, c.decreases, c.start_of.ensures, start_le c.args.view.now c.args.step.at 1), rw c.start_of.ensures (step_path c.args.step c.requires.0 c.requires.1))

pub step-make_for-made-requires : goal.step-make_for-made-requires
step-make_for-made-requires t c = step_make c.args.step c.requires.0 c.requires.1 (rw c.start_of.ensures at c.trek-there.ensures)

pub step-next-after-requires : goal.step-next-after-requires
step-next-after-requires t c = step_next c.args.step c.requires.0 c.requires.1 (rw c.start_of.ensures at c.trek-there.ensures) c.make_for-made.ensures

pub step-walk-n-requires : goal.step-walk-n-requires
step-walk-n-requires t c = (omega (arith, c.decreases), step_walk c.args.step c.requires.0 c.requires.1 (rw c.start_of.ensures at c.trek-there.ensures) c.make_for-made.ensures c.next-after.ensures)

pub step-returns : goal.step-returns
step-returns t c = step_trekked c.args.step c.requires.0 c.requires.1 (rw c.start_of.ensures at c.trek-there.ensures) c.make_for-made.ensures c.next-after.ensures c.walk-n.ensures

pub trek-overflow_sub-at : goal.trek-overflow_sub-at
trek-overflow_sub-at t c = omega (arith, trek_after c.requires)

pub trek-token_at-requires : goal.trek-token_at-requires
trek-token_at-requires t c = omega (arith, trek_short c.requires)

pub trek-step-requires : goal.trek-step-requires
trek-step-requires t c =
    let q : token_at c.args.view.now (c.args.end - 1) ≡ step_token (direction_of c.match-token_at.attribute.1) c.match-token_at.attribute.0 =
    elim c.match-token_at.branch [
      | trek-in-Forward w ↦ rw w.attribute-is (sym c.token_at.ensures ∙ w.in-Forward.is)
      | trek-in-Backward w ↦ rw w.attribute-is (sym c.token_at.ensures ∙ w.in-Backward.is)
    ] in
    grind (arith, c.decreases, trek_after c.requires, trek_from c.requires, q)

pub trek-returns-in-Empty : goal.trek-returns-in-Empty
trek-returns-in-Empty t c = trek_leaf c.requires (sym c.token_at.ensures ∙ c.in-Empty.is)

pub trek-returns-in-Class : goal.trek-returns-in-Class
trek-returns-in-Class t c = absurd (path_not_concept c.args.view.now _ c.requires.item (rw (← c.token_at.ensures) c.in-Class.is))

pub trek-returns : goal.trek-returns
trek-returns t c = trek_to c.requires (grind (arith, c.step.ensures))

pub walk-overflow_sub-at : goal.walk-overflow_sub-at
walk-overflow_sub-at t c = omega (arith, walk_after c.requires)

pub walk-token_at-requires : goal.walk-token_at-requires
walk-token_at-requires t c = omega (arith, walk_short c.requires)

pub walk-both-requires : goal.walk-both-requires
walk-both-requires t c = (omega (arith, c.decreases, walk_after c.requires), (walk_from c.requires, (sym c.token_at.ensures ∙ c.in-Both.is)))

pub walk-trek-requires : goal.walk-trek-requires
walk-trek-requires t c = (omega (arith, c.decreases, walk_after c.requires), reached_path (walk_from c.requires) (sym c.token_at.ensures ∙ c.in-Reached.is))

pub walk-common-requires : goal.walk-common-requires
walk-common-requires t c = (omega (arith, c.decreases, walk_after c.requires), (walk_from c.requires, (sym c.token_at.ensures ∙ c.in-Common.is)))

pub walk-returns-in-Class : goal.walk-returns-in-Class
walk-returns-in-Class t c = walk_leaf c.requires (rw (← c.token_at.ensures) c.in-Class.is)

pub walk-returns-in-Both : goal.walk-returns-in-Both
walk-returns-in-Both t c = walk_to c.requires c.both.ensures

pub walk-returns-in-Reached : goal.walk-returns-in-Reached
walk-returns-in-Reached t c = walk_to c.requires (reached_walked (walk_from c.requires) (sym c.token_at.ensures ∙ c.in-Reached.is) c.trek.ensures)

pub walk-returns-in-Common : goal.walk-returns-in-Common
walk-returns-in-Common t c = walk_to c.requires c.common.ensures

pub walk-returns-in-Empty : goal.walk-returns-in-Empty
walk-returns-in-Empty t c = absurd (concept_not_path c.args.view.now _ c.requires.item (rw (← c.token_at.ensures) c.in-Empty.is))
