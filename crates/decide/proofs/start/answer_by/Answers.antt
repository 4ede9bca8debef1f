-- The record is written where there is room for the largest (StartLaws).
use mathlib.Core.Path.{sym, ◌∙◌}
use native.Mathlib.Omega.{arith}
use Rattle.records.specs.Layout.{max_state_words, length_for, state_layout}
use Rattle.records.proofs.EncodingLaws.{state_fits}
use Rattle.decide.proofs.StartLaws.{start_short, start_written}
use Rattle.decide.proofs.start.answer_by.Goals as goal

pub returns-then-lent-lt-STATE_WORDS : goal.returns-then-lent-lt-STATE_WORDS
unfolding max_state_words length_for state_layout
returns-then-lent-lt-STATE_WORDS c =
    let short = start_short _ _ _ _ c.args.lent.now (sym c.inside.ensures ∙ c.if-inside.false) c.if-lent-lt-STATE_WORDS.true in
    record { answered = short.0; words = short.1 }

pub write-requires : goal.write-requires
unfolding max_state_words length_for state_layout
write-requires c =
    (c.requires.objects, omega (arith, c.requires.few), omega (arith, state_fits _ c.requires.few, c.if-lent-lt-STATE_WORDS.false))

pub returns : goal.returns
unfolding max_state_words length_for state_layout
returns c =
    let written = start_written _ _ _ _ c.args.lent.now (sym c.inside.ensures ∙ c.if-inside.false) c.if-lent-lt-STATE_WORDS.false in
    record { answered = written.0; words = rw (c.write.ensures.lent_after, c.write.ensures.value) written.1 }
