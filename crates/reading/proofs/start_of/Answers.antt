-- What is still to be found is what was asked; with each token passed at most one item more is wanted.
use native.Mathlib.Omega.{arith}
use mathlib.Core.Path.{sym, ap, ◌∙◌}
use Rattle.records.specs.Helpers.Reading.{takes}
use Rattle.reading.proofs.ReadingScanLaws.{takes_few, goes_on, start_more, start_done}
use Rattle.reading.proofs.start_of.Goals as goal

pub overflow_add-wanted : goal.overflow_add-wanted
overflow_add-wanted c = omega (arith, c.takes.ensures, takes_few c.token_at.result)

pub loop-at-preserved : goal.loop-at-preserved
loop-at-preserved c =
    let h = goes_on c.loop-at.at c.loop-at.wanted c.loop-at-test.true in (
      start_more c.args.words.now _ _ _ h (c.takes.ensures ∙ ap takes c.token_at.ensures) ∙ c.loop-at.invariant.0,
      omega arith,
      omega (arith, h.0, h.1, c.takes.ensures, takes_few c.token_at.result),
    )

pub returns : goal.returns
returns c = sym (start_done c.args.words.now _ _ c.loop-at-test.false) ∙ c.loop-at.invariant.0
