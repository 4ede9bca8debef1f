-- The scan keeps the faults, the order and the names of the facts passed (Kept of StateScanLaws).
use Rattle.std.proofs.lemmas.Bool.{not_from_true}
use Rattle.records.proofs.General.FiniteLaws.{any_of_lem}
use Rattle.check_state.proofs.StateScanLaws.{kept_10, kept_8, kept_9, kept_all, kept_more, kept_none, kept_past}
use Rattle.records.specs.StateRefusal.{refusal_8, state_answer}
use Rattle.check_state.specs.Scan.{sorted_answer}
use Rattle.std.proofs.lemmas.Grind.{common_steps}
use mathlib.Core.Path.{◌∙◌, ap₂, sym}
use native.Mathlib.Omega.{arith}
use Rattle.check_state.proofs.check_state.Goals.{in-Some, in_default}
use Rattle.check_state.proofs.check_state.Goals as goal

pub returns-then-bad_shape : goal.returns-then-bad_shape
unfolding state_answer
returns-then-bad_shape c = grind (arith, common_steps)

pub loop-i-init : goal.loop-i-init
loop-i-init c = (omega arith, kept_none _ _)

pub returns-then-faulty_fact : goal.returns-then-faulty_fact
unfolding state_answer refusal_8
returns-then-faulty_fact c =
    rw (
      ← c.bad_shape.ensures,
      c.if-bad_shape.false,
      ← c.facts-n.ensures.value,
      any_of_lem _ _ _ c.loop-i-test.true (sym c.faulty_fact.ensures ∙ c.if-faulty_fact.true),
    )

pub overflow_add-counts : goal.overflow_add-counts
overflow_add-counts c = omega (arith, c.loop-i.invariant.1.small c.in-Some.at, c.loop-i.invariant.0, c.facts-n.ensures.word)

pub loop-i-preserved : goal.loop-i-preserved
loop-i-preserved c = (
  omega arith,
  elim c.match-slot.branch [
    | in-Some w ↦ rw (w.counts-is, w.named-is, c.follows-ascending.ensures, w.object_at.ensures)
        (kept_more _ _ c.loop-i.invariant.1 (sym c.faulty_fact.ensures ∙ c.if-faulty_fact.false) _ (rw (← c.kind_at.ensures) (sym c.slot.ensures ∙ w.in-Some.is)))
    | in_default w ↦ rw (w.counts-is, w.named-is, c.follows-ascending.ensures)
        (kept_past _ _ c.loop-i.invariant.1 (sym c.faulty_fact.ensures ∙ c.if-faulty_fact.false) (rw (← c.kind_at.ensures) (sym c.slot.ensures ∙ w.in_default.is)))
  ],
)

pub returns-then-not-ascending : goal.returns-then-not-ascending
unfolding state_answer
returns-then-not-ascending c =
    let z = kept_all _ _ c.loop-i.invariant.1 c.loop-i.invariant.0 c.loop-i-test.false c.facts-n.ensures.value in
    rw (← c.bad_shape.ensures, c.if-bad_shape.false, kept_8 _ _ z, kept_9 _ _ z, c.if-not-ascending.true)

pub bad_class_facts-requires : goal.bad_class_facts-requires
bad_class_facts-requires c =
    let z = kept_all _ _ c.loop-i.invariant.1 c.loop-i.invariant.0 c.loop-i-test.false c.facts-n.ensures.value in
    kept_9 _ _ z ∙ (not_from_true _ c.if-not-ascending.false)

pub bad_names-requires : goal.bad_names-requires
bad_names-requires c = (c.loop-i.invariant.1.counters, c.loop-i.invariant.1.places)

pub returns : goal.returns
unfolding state_answer
returns c =
    let z = kept_all _ _ c.loop-i.invariant.1 c.loop-i.invariant.0 c.loop-i-test.false c.facts-n.ensures.value in
    rw (← c.bad_shape.ensures, c.if-bad_shape.false, kept_8 _ _ z, kept_9 _ _ z, c.if-not-ascending.false)
    (c.answer.ensures ∙ ap₂ sorted_answer c.bad_class_facts.ensures (c.bad_names.ensures ∙ kept_10 _ _ z))
