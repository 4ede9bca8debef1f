-- Each loop has passed tests that did not apply (Passed of SearchLaws): the search, broken axioms; the loops inside it, which
-- walk a row (Walked), objects and facts that break the axiom at hand. Facts before the row that the axiom asks about cannot
-- break it, nor can those after it.
use mathlib.Core.Path.{◌≡◌, refl, sym, ◌∙◌}
use native.Mathlib.Omega.{arith}
use Rattle.records.specs.Layout.{state_layout, entries}
use Rattle.records.proofs.General.FiniteLaws.{any_zero}
use Rattle.legality.specs.Breaks.{misplaced, pair_breaks}
use Rattle.legality.specs.Asked.{objects_asked}
use Rattle.legality.proofs.AskedLaws.{Settled, pairs_settled}
use Rattle.legality.proofs.SearchLaws.{passed_none, passed_more, passed_all, walked_none, walked_inside, walked_from, walked_more, walked_all, none_first, AtHand, axiom_named, kinds, object_inside, object_first, pair_first, axiom_kept}
use Rattle.legality.proofs.first_broken.Goals as goal
use Rattle.legality.proofs.first_broken.Goals.{After-axiom_at-a, After-into_iter-d-iterator, After-into_iter-f-iterator}

-- what is known of the axiom at hand
hand : (c : After-axiom_at-a) → AtHand c.args.s c.args.schema.now c.args.state.now c.args.seen.now c.objects-objects.result c.search.i c.axiom_at-a.result
hand c =
    record {
      judged = c.requires;
      objects = c.objects-objects.ensures.value;
      is = c.axiom_at-a.ensures;
      here = omega (arith, c.search-test.true, c.axioms-i-end.ensures.value);
      earlier = c.search.invariant.none;
    }

-- where the objects that it asks about end
objects_end : (c : After-into_iter-d-iterator) → c.into_iter-d-iterator.result.end ≡ objects_asked c.axiom_at-a.result c.objects-objects.result
objects_end c = rw c.into_iter-d-iterator.ensures.into_iter_gives c.objects_asked-d-items.ensures.1

-- no fact outside the row that it asks about breaks it
settled : (c : After-into_iter-f-iterator) → Settled (pair_breaks c.args.state.now c.args.seen.now c.axiom_at-a.result) (misplaced c.args.state.now c.args.seen.now c.axiom_at-a.result) (entries state_layout c.args.state.now) c.into_iter-f-iterator.result
settled c = pairs_settled c.args.state.now c.args.seen.now c.axiom_at-a.result (rw c.into_iter-f-iterator.ensures.into_iter_gives c.pairs_asked-f-items.ensures)

pub search-init : goal.search-init
search-init c = passed_none _ refl

pub loop-d-init : goal.loop-d-init
loop-d-init c =
    walked_none _ (rw (c.into_iter-d-iterator.ensures.into_iter_gives, c.objects_asked-d-items.ensures.0) (any_zero _)) c.search.invariant.kept

pub object_breaks-requires : goal.object_breaks-requires
object_breaks-requires c =
    let h = hand (goal.at.object_breaks-requires c).After-axiom_at-a in
    let l = walked_inside _ c.loop-d.invariant _ c.in-Some.ensures.steps in
    (axiom_named h, omega (arith, object_inside h _ (rw (objects_end (goal.at.object_breaks-requires c).After-into_iter-d-iterator) at l), c.objects-objects.ensures.word))

pub loop-d-preserved : goal.loop-d-preserved
loop-d-preserved c =
    walked_more _ c.loop-d.invariant _ c.in-Some.ensures.steps (sym c.object_breaks.ensures ∙ c.if-object_breaks.false)

pub pairs_asked-f-items-requires : goal.pairs_asked-f-items-requires
pairs_asked-f-items-requires c = let h = hand (goal.at.pairs_asked-f-items-requires c).After-axiom_at-a in (axiom_named h, kinds h)

pub loop-f-init : goal.loop-f-init
loop-f-init c = walked_none _ (settled c).before c.loop-d.invariant.passed.kept

pub misplaced-requires : goal.misplaced-requires
misplaced-requires c =
    let r = settled (goal.at.misplaced-requires c).After-into_iter-f-iterator in
    (axiom_named (hand (goal.at.misplaced-requires c).After-axiom_at-a), omega (arith, walked_inside _ c.loop-f.invariant _ c.in-Some-f.ensures.steps, r.few))

pub loop-f-preserved : goal.loop-f-preserved
loop-f-preserved c =
    let r = settled (goal.at.loop-f-preserved c).After-into_iter-f-iterator in
    let l = walked_inside _ c.loop-f.invariant _ c.in-Some-f.ensures.steps in
    let k = walked_from _ c.loop-f.invariant _ c.in-Some-f.ensures.steps in
    walked_more _ c.loop-f.invariant _ c.in-Some-f.ensures.steps (r.inside _ k l ∙ sym c.misplaced.ensures ∙ c.if-misplaced.false)

pub search-preserved : goal.search-preserved
search-preserved c =
    passed_more _ c.search.invariant
    (axiom_kept (hand (goal.at.search-preserved c).After-axiom_at-a)
    (rw (objects_end (goal.at.search-preserved c).After-into_iter-d-iterator) at (walked_all _ c.loop-d.invariant c.in-None.ensures.steps))
    (settled (goal.at.search-preserved c).After-into_iter-f-iterator) (walked_all _ c.loop-f.invariant c.in-None-f.ensures.steps))
    c.loop-f.invariant.passed.kept

pub returns-after-search : goal.returns-after-search
returns-after-search c =
    c.search.invariant.kept ∙ none_first _ _ c.axioms-i-end.ensures.value (passed_all _ _ c.search.invariant c.search-test.false)

pub returns-then-object_breaks : goal.returns-then-object_breaks
returns-then-object_breaks c =
    let l = walked_inside _ c.loop-d.invariant _ c.in-Some.ensures.steps in
    object_first (hand (goal.at.returns-then-object_breaks c).After-axiom_at-a) _
    (rw (objects_end (goal.at.returns-then-object_breaks c).After-into_iter-d-iterator) at l) (sym c.object_breaks.ensures ∙ c.if-object_breaks.true)

pub returns-then-misplaced : goal.returns-then-misplaced
returns-then-misplaced c =
    let r = settled (goal.at.returns-then-misplaced c).After-into_iter-f-iterator in
    let l = walked_inside _ c.loop-f.invariant _ c.in-Some-f.ensures.steps in
    let k = walked_from _ c.loop-f.invariant _ c.in-Some-f.ensures.steps in
    pair_first (hand (goal.at.returns-then-misplaced c).After-axiom_at-a) _
    (omega (arith, l, r.within)) (r.inside _ k l ∙ sym c.misplaced.ensures ∙ c.if-misplaced.true)
