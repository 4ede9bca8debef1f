-- By the last token, a step or the empty path (EndLaws).
use mathlib.Core.Path.{sym, ap, ◌∙◌}
use Rattle.records.specs.ConceptRefusal.{is_step}
use Rattle.records.proofs.ReadingLaws.{path_some}
use Rattle.asked.proofs.EndLaws.{end_step, end_empty}
use Rattle.asked.proofs.items.end_of.Goals as goal

pub overflow_sub-at : goal.overflow_sub-at
overflow_sub-at c = path_some c.args.query.now _ c.requires.has_path

pub returns-then-is_step : goal.returns-then-is_step
returns-then-is_step c =
    c.step_number.ensures
    ∙ sym (end_step c.args.query.now _ _ c.requires.has_path
    (sym (ap is_step c.token_at.ensures) ∙ sym c.is_step.ensures ∙ c.if-is_step.true))

pub returns : goal.returns
returns c =
    sym (end_empty c.args.query.now _ _ c.requires.has_path
    (sym (ap is_step c.token_at.ensures) ∙ sym c.is_step.ensures ∙ c.if-is_step.false))
