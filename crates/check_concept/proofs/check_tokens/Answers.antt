-- The loop keeps the scan of the tokens passed (scan_after of ConceptScanLaws), none of them faulty.
use mathlib.Core.Path.{refl, sym, ◌∙◌}
use native.Mathlib.Nat.{le_antisymm}
use native.Mathlib.Numerals.{add-one}
use native.Mathlib.Omega.{arith}
use Rattle.std.proofs.lemmas.Grind.{common_steps}
use Rattle.records.specs.ConceptRefusal.{refusal_4, concept_answer}
use Rattle.records.proofs.General.FiniteLaws.{any_zero, any_of_lem, any_still}
use Rattle.records.proofs.AcceptedLaws.{tokens_few}
use Rattle.check_concept.proofs.ConceptScanLaws.{token_of_lem, fault_of, scan_after, scan_room, scan_answer_lem}
use Rattle.check_concept.proofs.check_tokens.Goals as goal

pub returns-then-bad_shape : goal.returns-then-bad_shape
unfolding concept_answer
returns-then-bad_shape c = grind (arith, common_steps)

pub loop-i-init : goal.loop-i-init
unfolding scan_after
loop-i-init c = (omega arith, any_zero _, refl)

pub returns-then-faulty_token : goal.returns-then-faulty_token
unfolding concept_answer refusal_4
returns-then-faulty_token c =
    let fault = fault_of _ _ c.sort_at-sort.ensures c.argument_at-argument.ensures _ in
    rw (
      ← c.bad_shape.ensures,
      c.if-bad_shape.false,
      ← c.tokens-n.ensures.value,
      any_of_lem _ _ _ c.loop-i-test.true (sym fault ∙ sym c.faulty_token.ensures ∙ c.if-faulty_token.true),
    )

pub read-scan-requires : goal.read-scan-requires
read-scan-requires c =
    let w = c.args.words.now in
    let few = tokens_few w (sym c.bad_shape.ensures ∙ c.if-bad_shape.false) in
    rw c.loop-i.invariant.2 (scan_room w c.loop-i.i (omega (arith, few, c.tokens-n.ensures.value)))

pub loop-i-preserved : goal.loop-i-preserved
unfolding scan_after
loop-i-preserved c =
    let fault = fault_of _ _ c.sort_at-sort.ensures c.argument_at-argument.ensures _ in
    let token = c.token_of.ensures ∙ token_of_lem _ _ c.sort_at-sort.ensures c.argument_at-argument.ensures in (
      omega arith,
      any_still _ _ c.loop-i.invariant.1 (sym fault ∙ sym c.faulty_token.ensures ∙ c.if-faulty_token.false),
      rw (add-one c.loop-i.i, ← token, ← c.loop-i.invariant.2) c.read-scan.ensures,
    )

pub returns : goal.returns
returns c =
    c.answer.ensures
    ∙ scan_answer_lem _ _ _ (le_antisymm c.loop-i.invariant.0 c.loop-i-test.false ∙ c.tokens-n.ensures.value) c.word.ensures.value
    c.loop-i.invariant.2 (sym c.bad_shape.ensures ∙ c.if-bad_shape.false) c.loop-i.invariant.1
