-- By the check, the lent words, or the verdict on accepted records (DecisionLaws).
use mathlib.Core.Path.{sym, ◌∙◌}
use Rattle.records.specs.Layout.{max_state_words, length_for, state_layout}
use Rattle.std.proofs.lemmas.Grind.{common_steps}
use native.Mathlib.Omega.{arith}
use Rattle.decide.proofs.DecisionLaws.{accepted, decide_refused, decide_short, decide_decided}
use Rattle.decide.proofs.decide.Goals as goal

pub returns-in_err-check : goal.returns-in_err-check
returns-in_err-check c =
    let refused = decide_refused _ _ _ (sym c.in_err-check.ensures) c.args.lent.now in
    grind (arith, common_steps)

pub returns-then-lent-lt-STATE_WORDS : goal.returns-then-lent-lt-STATE_WORDS
unfolding max_state_words length_for state_layout
returns-then-lent-lt-STATE_WORDS c =
    decide_short _ _ _ (sym c.check.ensures ∙ c.in_ok-check.was) _ c.if-lent-lt-STATE_WORDS.true

pub answer-requires : goal.answer-requires
answer-requires c = accepted _ _ _ (sym c.check.ensures ∙ c.in_ok-check.was)

pub returns : goal.returns
unfolding max_state_words length_for state_layout
returns c =
    decide_decided _ _ _ (sym c.check.ensures ∙ c.in_ok-check.was) _ c.if-lent-lt-STATE_WORDS.false
    (c.answer.ensures.verdict c.if-lent-lt-STATE_WORDS.false)
