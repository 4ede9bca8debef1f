-- The marks of the tokens passed.
use Rattle.std.proofs.Common.{rules}
use mathlib.Core.Path.{ap, ◌∙◌}
use Rattle.records.specs.Marks.{mark_used, used_marks}
use Rattle.records.proofs.General.RangeLaws.{fold_below}
use Rattle.records.proofs.MarkLaws.{marks_before}
use Rattle.reading.proofs.ReadingScanLaws.{marks_upto}
use Rattle.reading.proofs.used.Goals as goal

pub returns : goal.returns
unfolding used_marks mark_used
returns c = fold_below c.fold.ensures.ran (λ m i n q k. search rules) ∙ marks_upto c.args.words.now c.tokens.result ∙ ap (marks_before c.args.words.now) c.tokens.ensures.value
