-- The span of tokens falls: an operand ends before its item does, and the measure is twice the place where the item ends.
-- A token's own function stands between: its measure is one more than that of the operands that end at its place. Each answer
-- cites what the token makes of its operands (PlaceLaws).
use Rattle.evaluate.proofs.PlaceLaws.{place_earlier, place_few, place_facts, place_room, place_walk, place_below, class_selected, everything_selected, constant_selected, mark_selected, both_selected, reached_selected, last_walk, common_selected, empty_landed, step_read, step_landed, concept_place, concept_put, path_place, path_put}
use Rattle.paths.proofs.TokenLaws.{named_small}
use Rattle.records.proofs.ReadingLaws.{concept_some, path_some, concept_next, path_next, concept_reads, concept_suc, path_suc, concept_token, concept_not_path}
use Rattle.records.proofs.PileLaws.{start_le}
use Rattle.records.specs.ConceptRefusal.{step_at}
use mathlib.Core.Bool.{So}
use mathlib.Core.Path.{refl, sym, ◌∙◌}
use native.Mathlib.Omega.{arith}
use Prim.Native.Nat.{◌-◌}
use Rattle.evaluate.proofs.items.+both_common_concept_path_reached.Goals as goal

pub both-concept-last-requires : goal.both-concept-last-requires
both-concept-last-requires t c =
    let r = concept_reads c.args.words.now c.args.at _ c.requires.has_concept c.requires.at_value in
    (omega (arith, c.decreases), (place_earlier c.requires.place refl refl (omega arith), r.2))

pub both-concept-first-requires : goal.both-concept-first-requires
both-concept-first-requires t c =
    let r = concept_reads c.args.words.now c.args.at _ c.requires.has_concept c.requires.at_value in
    let e = c.concept-last.ensures in
    (omega (arith, c.decreases, e.start, start_le c.args.words.now c.args.at 1), (place_below c.requires.place e.landings.size e.size e.start, rw e.start r.3))

pub both-returns : goal.both-returns
both-returns t c =
    let r = concept_reads c.args.words.now c.args.at _ c.requires.has_concept c.requires.at_value in
    both_selected c.requires.place c.requires.at_value r c.concept-last.ensures c.concept-first.ensures c.shared_row.ensures

pub common-path-middle-requires : goal.common-path-middle-requires
common-path-middle-requires t c =
    let r = concept_reads c.args.words.now c.args.at _ c.requires.has_concept c.requires.at_value in
    (omega (arith, c.decreases), (place_earlier c.requires.place refl refl (omega arith), r.2))

pub common-path-start-requires : goal.common-path-start-requires
common-path-start-requires t c =
    let r = concept_reads c.args.words.now c.args.at _ c.requires.has_concept c.requires.at_value in
    let e = c.path-middle.ensures in
    (omega (arith, c.decreases, e.start, start_le c.args.words.now c.args.at 1), (place_below c.requires.place e.landings.size e.size e.start, rw e.start r.3))

pub common-meeting-requires : goal.common-meeting-requires
common-meeting-requires t c = let r = concept_reads c.args.words.now c.args.at _ c.requires.has_concept c.requires.at_value in
    let m = c.path-middle.ensures in
    let k = c.path-start.ensures in
    let z = c.requires.place in
    record { walk = place_walk z (k.landings.size ∙ m.landings.size) (omega (arith, m.start, start_le c.args.words.now c.args.at 1)) (rw m.start r.3) k.landings.landed; walk_2 = last_walk z r.2 m k; state_in_bounds = omega (arith, k.size, m.size, z.relations c.args.at (omega arith) c.requires.at_value); rows_len_bound = omega (arith, k.size, m.size, z.few) }

pub common-returns : goal.common-returns
common-returns t c =
    let r = concept_reads c.args.words.now c.args.at _ c.requires.has_concept c.requires.at_value in
    common_selected c.requires.place c.requires.at_value r c.path-middle.ensures c.path-start.ensures c.meeting.ensures

pub concept-overflow_sub-at : goal.concept-overflow_sub-at
concept-overflow_sub-at t c = concept_some c.args.words.now _ c.requires.has_concept

pub concept-token_at-requires : goal.concept-token_at-requires
concept-token_at-requires t c = omega (arith, place_few c.requires.place)

pub concept-kind_set-requires : goal.concept-kind_set-requires
concept-kind_set-requires t c =
    let (rise, few) = place_facts c.requires.place in (rise, few, omega (arith, named_small _ c.type_inv.words _ (sym c.token_at.ensures ∙ c.in-Class.is)))

pub concept-everything-requires : goal.concept-everything-requires
concept-everything-requires t c = place_room c.requires.place c.objects.ensures.value

pub concept-overflow_add-a : goal.concept-overflow_add-a
concept-overflow_add-a t c = omega (arith, named_small _ c.type_inv.words _ (sym c.token_at.ensures ∙ c.in-Constant.is))

pub concept-kind_set-requires-in-Constant : goal.concept-kind_set-requires-in-Constant
concept-kind_set-requires-in-Constant t c =
    let (rise, few) = place_facts c.requires.place in (rise, few, omega (arith, named_small _ c.type_inv.words _ (sym c.token_at.ensures ∙ c.in-Constant.is)))

pub concept-both-requires : goal.concept-both-requires
concept-both-requires t c =
    let h = c.requires.has_concept in
    let q = sym c.token_at.ensures ∙ c.in-Both.is in
    (omega (arith, c.decreases, concept_next c.args.words.now _ h), (concept_place c.requires.place h, (concept_suc c.args.words.now _ h, q)))

pub concept-reached-requires : goal.concept-reached-requires
concept-reached-requires t c =
    let h = c.requires.has_concept in
    let q = sym c.token_at.ensures ∙ c.in-Reached.is in
    (omega (arith, c.decreases, concept_next c.args.words.now _ h), (concept_place c.requires.place h, (concept_suc c.args.words.now _ h, q)))

pub concept-common-requires : goal.concept-common-requires
concept-common-requires t c =
    let h = c.requires.has_concept in
    let q = sym c.token_at.ensures ∙ c.in-Common.is in
    (omega (arith, c.decreases, concept_next c.args.words.now _ h), (concept_place c.requires.place h, (concept_suc c.args.words.now _ h, q)))

pub concept-overflow_add-k : goal.concept-overflow_add-k
concept-overflow_add-k t c = omega (arith, named_small _ c.type_inv.words _ (sym c.token_at.ensures ∙ c.in-Mark.is))

pub concept-kind_set-requires-in-Mark : goal.concept-kind_set-requires-in-Mark
concept-kind_set-requires-in-Mark t c =
    let (rise, few) = place_facts c.requires.place in (rise, few, omega (arith, named_small _ c.type_inv.words _ (sym c.token_at.ensures ∙ c.in-Mark.is)))

pub concept-returns-in-Class : goal.concept-returns-in-Class
concept-returns-in-Class t c =
    let h = c.requires.has_concept in
    let q = sym c.token_at.ensures ∙ c.in-Class.is in
    concept_put c.requires.place h (class_selected (concept_place c.requires.place h) q (concept_token c.args.words.now _ h q) c.kind_set.ensures)

pub concept-returns-in-Everything : goal.concept-returns-in-Everything
concept-returns-in-Everything t c =
    let h = c.requires.has_concept in
    let q = sym c.token_at.ensures ∙ c.in-Everything.is in
    concept_put c.requires.place h (everything_selected (concept_place c.requires.place h) q (concept_token c.args.words.now _ h q) c.objects.ensures.value c.everything.ensures)

pub concept-returns-in-Constant : goal.concept-returns-in-Constant
concept-returns-in-Constant t c =
    let h = c.requires.has_concept in
    let q = sym c.token_at.ensures ∙ c.in-Constant.is in
    concept_put c.requires.place h (constant_selected (concept_place c.requires.place h) q (concept_token c.args.words.now _ h q) c.kind_set-in-Constant.ensures)

pub concept-returns-in-Both : goal.concept-returns-in-Both
concept-returns-in-Both t c = concept_put c.requires.place c.requires.has_concept c.both.ensures

pub concept-returns-in-Reached : goal.concept-returns-in-Reached
concept-returns-in-Reached t c = concept_put c.requires.place c.requires.has_concept c.reached.ensures

pub concept-returns-in-Common : goal.concept-returns-in-Common
concept-returns-in-Common t c = concept_put c.requires.place c.requires.has_concept c.common.ensures

pub concept-returns-in-Mark : goal.concept-returns-in-Mark
concept-returns-in-Mark t c =
    let h = c.requires.has_concept in
    let q = sym c.token_at.ensures ∙ c.in-Mark.is in
    concept_put c.requires.place h (mark_selected (concept_place c.requires.place h) q (concept_token c.args.words.now _ h q) c.kind_set-in-Mark.ensures)

pub concept-returns-in-Empty : goal.concept-returns-in-Empty
concept-returns-in-Empty t c = absurd (concept_not_path c.args.words.now _ c.requires.has_concept (rw (← c.token_at.ensures) c.in-Empty.is))

pub path-overflow_sub-at : goal.path-overflow_sub-at
path-overflow_sub-at t c = path_some c.args.words.now _ c.requires.has_path

pub path-token_at-requires : goal.path-token_at-requires
path-token_at-requires t c = omega (arith, place_few c.requires.place)

pub path-concept-landing-requires : goal.path-concept-landing-requires
path-concept-landing-requires t c =
    let h : So (step_at c.args.words.now (c.args.end - 1)) = rw (← c.token_at.ensures, ← c.is_step.ensures) c.if-is_step.true in
    let p = path_place c.requires.place c.requires.has_path in
    (omega (arith, c.decreases, path_next c.args.words.now _ c.requires.has_path), (place_earlier p refl refl (omega arith), (step_read p (path_suc c.args.words.now _ c.requires.has_path) h).1))

pub path-put-requires : goal.path-put-requires
path-put-requires t c = record { set_words_in_bounds = omega (arith, c.concept-landing.ensures.landings.size, c.requires.place.room, c.requires.place.within, path_next c.args.words.now _ c.requires.has_path); set_len = c.concept-landing.ensures.selection.size }

pub path-path-requires : goal.path-path-requires
path-path-requires t c =
    let h : So (step_at c.args.words.now (c.args.end - 1)) = rw (← c.token_at.ensures, ← c.is_step.ensures) c.if-is_step.true in
    let p = path_place c.requires.place c.requires.has_path in
    let e = c.concept-landing.ensures in
    (omega (arith, c.decreases, path_next c.args.words.now _ c.requires.has_path, e.start, start_le c.args.words.now (c.args.end - 1) 1), (place_below p (c.put.ensures.size ∙ e.landings.size) e.size e.start, rw e.start (step_read p (path_suc c.args.words.now _ c.requires.has_path) h).2))

pub path-returns-then-is_step : goal.path-returns-then-is_step
path-returns-then-is_step t c =
    let h : So (step_at c.args.words.now (c.args.end - 1)) = rw (← c.token_at.ensures, ← c.is_step.ensures) c.if-is_step.true in
    path_put c.requires.place c.requires.has_path (step_landed (path_place c.requires.place c.requires.has_path) (path_suc c.args.words.now _ c.requires.has_path) h c.concept-landing.ensures c.put.ensures c.path.ensures)

pub path-returns-else-is_step : goal.path-returns-else-is_step
path-returns-else-is_step t c =
    path_put c.requires.place c.requires.has_path (empty_landed (path_place c.requires.place c.requires.has_path) (path_suc c.args.words.now _ c.requires.has_path) (rw (← c.token_at.ensures, ← c.is_step.ensures) c.if-is_step.false))

pub reached-path-start-requires : goal.reached-path-start-requires
reached-path-start-requires t c =
    let r = concept_reads c.args.words.now c.args.at _ c.requires.has_concept c.requires.at_value in
    (omega (arith, c.decreases), (place_earlier c.requires.place refl refl (omega arith), r.2))

pub reached-reaching-requires : goal.reached-reaching-requires
reached-reaching-requires t c =
    let r = concept_reads c.args.words.now c.args.at _ c.requires.has_concept c.requires.at_value in
    place_walk c.requires.place c.path-start.ensures.landings.size (omega arith) r.2 c.path-start.ensures.landings.landed

pub reached-returns : goal.reached-returns
reached-returns t c =
    let r = concept_reads c.args.words.now c.args.at _ c.requires.has_concept c.requires.at_value in
    reached_selected c.requires.place c.requires.at_value r c.path-start.ensures c.reaching.ensures
