-- The span of tokens falls: an operand ends before its item does, and the measure is twice the place where the item ends.
-- A token's own function stands between: its measure is one more than that of the operands that end at its place. Each answer
-- cites what the operands' facts make (ItemLaws).
use Prim.Native.Nat.{◌-◌}
use mathlib.Core.Path.{◌≡◌, sym, ◌∙◌}
use Rattle.records.specs.Concept.{direction_of}
use Rattle.records.specs.ConceptRecord.{token_at}
use Rattle.records.specs.Helpers.Reading.{step_token}
use Rattle.records.proofs.PileLaws.{start_le}
use Rattle.records.proofs.ReadingLaws.{concept_some, path_some, concept_next, path_next, concept_reads, step_reads, concept_suc, path_suc, concept_token, path_token, concept_not_path, path_not_concept}
use Rattle.asked.proofs.PlaceLaws.{place_earlier, place_node, place_room, place_number}
use Rattle.asked.proofs.ItemLaws.{place_below, place_after, both_grown, common_grown, step_grown, left_small, right_small, token_named, step_named, class_grown, constant_grown, mark_grown, reached_grown, everything_grown, empty_grown, concept_place, path_place, concept_put, path_put}
use native.Mathlib.Omega.{arith}
use Rattle.asked.proofs.items.+both_common_concept_path_step.Goals as goal

pub both-concept-after-requires : goal.both-concept-after-requires
both-concept-after-requires t c =
    let r = concept_reads c.args.query.now c.args.at _ c.requires.has_concept c.requires.at_value in
    (omega (arith, c.decreases), (place_earlier c.requires.place (omega arith), r.2))

pub both-concept-requires : goal.both-concept-requires
both-concept-requires t c =
    let r = concept_reads c.args.query.now c.args.at _ c.requires.has_concept c.requires.at_value in
    (omega (arith, c.decreases, c.start_of.ensures, start_le c.args.query.now c.args.at 1), (place_below c.requires.place c.start_of.ensures c.concept-after.ensures, rw c.start_of.ensures r.3))

pub both-returns : goal.both-returns
both-returns t c =
    let r = concept_reads c.args.query.now c.args.at _ c.requires.has_concept c.requires.at_value in
    both_grown c.requires.place c.start_of.ensures r c.concept-after.ensures c.concept.ensures

pub common-path-after-requires : goal.common-path-after-requires
common-path-after-requires t c =
    let r = concept_reads c.args.query.now c.args.at _ c.requires.has_concept c.requires.at_value in
    (omega (arith, c.decreases), (place_earlier c.requires.place (omega arith), r.2))

pub common-end_of-left-requires-clause-has_path : goal.common-end_of-left-requires-clause-has_path
common-end_of-left-requires-clause-has_path t c =
    let r = concept_reads c.args.query.now c.args.at _ c.requires.has_concept c.requires.at_value in
    rw c.start_of-middle.ensures r.3

pub common-end_of-right-requires-clause-has_path : goal.common-end_of-right-requires-clause-has_path
common-end_of-right-requires-clause-has_path t c =
    let r = concept_reads c.args.query.now c.args.at _ c.requires.has_concept c.requires.at_value in
    r.2

pub common-add_equation-joined-requires-clause-left_lt_part : goal.common-add_equation-joined-requires-clause-left_lt_part
common-add_equation-joined-requires-clause-left_lt_part t c =
    let r = concept_reads c.args.query.now c.args.at _ c.requires.has_concept c.requires.at_value in (
      omega (arith, left_small c.requires.place c.start_of-middle.ensures r.3 c.end_of-left.ensures),
      right_small c.requires.place r.2 c.end_of-right.ensures,
    )

pub common-path-requires : goal.common-path-requires
common-path-requires t c =
    let r = concept_reads c.args.query.now c.args.at _ c.requires.has_concept c.requires.at_value in
    (omega (arith, c.decreases, c.start_of-middle.ensures, start_le c.args.query.now c.args.at 1), (place_after c.requires.place c.start_of-middle.ensures c.path-after.ensures c.add_equation-joined.ensures, rw c.start_of-middle.ensures r.3))

pub common-returns : goal.common-returns
common-returns t c =
    let r = concept_reads c.args.query.now c.args.at _ c.requires.has_concept c.requires.at_value in
    common_grown c.requires.place c.start_of-middle.ensures r c.end_of-left.ensures
    c.end_of-right.ensures c.path-after.ensures c.add_equation-joined.ensures c.path.ensures

pub concept-overflow_sub-at : goal.concept-overflow_sub-at
concept-overflow_sub-at t c = concept_some c.args.query.now _ c.requires.has_concept

pub concept-add_member-requires : goal.concept-add_member-requires
concept-add_member-requires t c = let h = c.requires.has_concept in
    let q = sym c.token_at.ensures ∙ c.in-Class.is in
    record { room = place_room c.requires.place (concept_some c.args.query.now _ h); class_lt_part = (omega (arith, token_named (concept_place c.requires.place h) q), omega (arith, c.requires.place.node)) }

pub concept-overflow_add-first : goal.concept-overflow_add-first
concept-overflow_add-first t c =
    let h = c.requires.has_concept in
    let q = sym c.token_at.ensures ∙ c.in-Constant.is in
    omega (arith, token_named (concept_place c.requires.place h) q, c.requires.place.constants)

pub concept-add_equation-requires : goal.concept-add_equation-requires
concept-add_equation-requires t c = let h = c.requires.has_concept in
    let q = sym c.token_at.ensures ∙ c.in-Constant.is in
    record { room = place_room c.requires.place (concept_some c.args.query.now _ h); left_lt_part = (omega (arith, c.requires.place.node), omega (arith, token_named (concept_place c.requires.place h) q, c.requires.place.constants)) }

pub concept-both-requires : goal.concept-both-requires
concept-both-requires t c =
    let h = c.requires.has_concept in
    let q = sym c.token_at.ensures ∙ c.in-Both.is in
    (omega (arith, c.decreases, concept_next c.args.query.now _ h), (concept_place c.requires.place h, (concept_suc c.args.query.now _ h, q)))

pub concept-path-requires : goal.concept-path-requires
concept-path-requires t c =
    let h = c.requires.has_concept in
    let q = sym c.token_at.ensures ∙ c.in-Reached.is in
    (omega (arith, c.decreases, concept_next c.args.query.now _ h), (place_earlier c.requires.place (omega arith), (concept_token c.args.query.now _ h q).2))

pub concept-common-requires : goal.concept-common-requires
concept-common-requires t c =
    let h = c.requires.has_concept in
    let q = sym c.token_at.ensures ∙ c.in-Common.is in
    (omega (arith, c.decreases, concept_next c.args.query.now _ h), (concept_place c.requires.place h, (concept_suc c.args.query.now _ h, q)))

pub concept-add_mark-requires : goal.concept-add_mark-requires
concept-add_mark-requires t c = let h = c.requires.has_concept in
    let q = sym c.token_at.ensures ∙ c.in-Mark.is in
    record { room = place_room c.requires.place (concept_some c.args.query.now _ h); mark_lt_max_marks = (token_named (concept_place c.requires.place h) q, omega (arith, c.requires.place.node)) }

pub concept-returns-in-Class : goal.concept-returns-in-Class
concept-returns-in-Class t c =
    let h = c.requires.has_concept in
    let q = sym c.token_at.ensures ∙ c.in-Class.is in
    concept_put c.requires.place h (class_grown (concept_place c.requires.place h) (concept_token c.args.query.now _ h q) c.add_member.ensures)

pub concept-returns-in-Everything : goal.concept-returns-in-Everything
concept-returns-in-Everything t c =
    let h = c.requires.has_concept in
    let q = sym c.token_at.ensures ∙ c.in-Everything.is in
    concept_put c.requires.place h (everything_grown (concept_place c.requires.place h) (concept_token c.args.query.now _ h q))

pub concept-returns-in-Constant : goal.concept-returns-in-Constant
concept-returns-in-Constant t c =
    let h = c.requires.has_concept in
    let q = sym c.token_at.ensures ∙ c.in-Constant.is in
    concept_put c.requires.place h (constant_grown (concept_place c.requires.place h) (concept_token c.args.query.now _ h q) c.add_equation.ensures)

pub concept-returns-in-Both : goal.concept-returns-in-Both
concept-returns-in-Both t c = concept_put c.requires.place c.requires.has_concept c.both.ensures

pub concept-returns-in-Reached : goal.concept-returns-in-Reached
concept-returns-in-Reached t c =
    let h = c.requires.has_concept in
    let q = sym c.token_at.ensures ∙ c.in-Reached.is in
    concept_put c.requires.place h (reached_grown (concept_place c.requires.place h) (concept_token c.args.query.now _ h q) c.path.ensures)

pub concept-returns-in-Common : goal.concept-returns-in-Common
concept-returns-in-Common t c = concept_put c.requires.place c.requires.has_concept c.common.ensures

pub concept-returns-in-Mark : goal.concept-returns-in-Mark
concept-returns-in-Mark t c =
    let h = c.requires.has_concept in
    let q = sym c.token_at.ensures ∙ c.in-Mark.is in
    concept_put c.requires.place h (mark_grown (concept_place c.requires.place h) (concept_token c.args.query.now _ h q) c.add_mark.ensures)

pub concept-returns-in-Empty : goal.concept-returns-in-Empty
concept-returns-in-Empty t c = absurd (concept_not_path c.args.query.now _ c.requires.has_concept (rw (← c.token_at.ensures) c.in-Empty.is))

pub path-overflow_sub-at : goal.path-overflow_sub-at
path-overflow_sub-at t c = path_some c.args.query.now _ c.requires.has_path

pub path-step-requires : goal.path-step-requires
path-step-requires t c =
    let h = c.requires.has_path in
    let q = sym c.token_at.ensures ∙ c.in-Forward.is in
    (omega (arith, c.decreases, path_next c.args.query.now _ h), (path_place c.requires.place h, (path_suc c.args.query.now _ h, q)))

pub path-step-requires-in-Backward : goal.path-step-requires-in-Backward
path-step-requires-in-Backward t c =
    let h = c.requires.has_path in
    let q = sym c.token_at.ensures ∙ c.in-Backward.is in
    (omega (arith, c.decreases, path_next c.args.query.now _ h), (path_place c.requires.place h, (path_suc c.args.query.now _ h, q)))

pub path-returns-in-Empty : goal.path-returns-in-Empty
path-returns-in-Empty t c =
    let h = c.requires.has_path in
    let q = sym c.token_at.ensures ∙ c.in-Empty.is in
    path_put c.requires.place h (empty_grown (path_place c.requires.place h) (path_token c.args.query.now _ h q))

pub path-returns-in-Class : goal.path-returns-in-Class
path-returns-in-Class t c = absurd (path_not_concept c.args.query.now _ c.requires.has_path (rw (← c.token_at.ensures) c.in-Class.is))

pub path-returns-in-Forward : goal.path-returns-in-Forward
path-returns-in-Forward t c = path_put c.requires.place c.requires.has_path c.step.ensures

pub path-returns-in-Backward : goal.path-returns-in-Backward
path-returns-in-Backward t c = path_put c.requires.place c.requires.has_path c.step-in-Backward.ensures

pub step-concept-after-requires : goal.step-concept-after-requires
step-concept-after-requires t c =
    let r = step_reads c.args.query.now c.args.step.at (direction_of c.args.step.backward) c.args.step.attribute c.requires.has_path c.requires.at_value in
    let z = place_earlier c.requires.place {d = c.args.step.at} (omega arith) in
    (omega (arith, c.decreases), (place_node z (rw c.step_number-landing.ensures (place_number z)), r.2))

pub step-end_of-origin-requires-clause-has_path : goal.step-end_of-origin-requires-clause-has_path
step-end_of-origin-requires-clause-has_path t c =
    let r = step_reads c.args.query.now c.args.step.at (direction_of c.args.step.backward) c.args.step.attribute c.requires.has_path c.requires.at_value in
    rw c.start_of-middle.ensures r.3

pub step-add_edge-led-requires-clause-attribute_lt_part : goal.step-add_edge-led-requires-clause-attribute_lt_part
step-add_edge-led-requires-clause-attribute_lt_part t c =
    let r = step_reads c.args.query.now c.args.step.at (direction_of c.args.step.backward) c.args.step.attribute c.requires.has_path c.requires.at_value in (
      step_named c.requires.place c.args.step.backward c.requires.at_value,
      omega (arith, left_small c.requires.place c.start_of-middle.ensures r.3 c.end_of-origin.ensures),
      omega (arith, c.step_number-landing.ensures, place_number (place_earlier c.requires.place {d = c.args.step.at} (omega arith))),
    )

pub step-path-requires : goal.step-path-requires
step-path-requires t c =
    let r = step_reads c.args.query.now c.args.step.at (direction_of c.args.step.backward) c.args.step.attribute c.requires.has_path c.requires.at_value in
    (omega (arith, c.decreases, c.start_of-middle.ensures, start_le c.args.query.now c.args.step.at 1), (place_after c.requires.place c.start_of-middle.ensures c.concept-after.ensures c.add_edge-led.ensures, rw c.start_of-middle.ensures r.3))

pub step-returns : goal.step-returns
step-returns t c =
    let r = step_reads c.args.query.now c.args.step.at (direction_of c.args.step.backward) c.args.step.attribute c.requires.has_path c.requires.at_value in
    step_grown c.requires.place c.start_of-middle.ensures c.args.step.attribute c.args.step.backward r
    c.step_number-landing.ensures c.end_of-origin.ensures c.concept-after.ensures
    c.add_edge-led.ensures c.path.ensures
