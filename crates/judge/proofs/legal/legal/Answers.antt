-- Each refusal is the first that applies. The law of the answer, where none applies, is named at the function (LegalLaws).
use mathlib.Core.List.{[]}
use mathlib.Core.Path.{sym, ◌∙◌}
use Rattle.std.specs.Prelude.{Err}
use Rattle.records.proofs.OutcomeLaws.{refused_at}
use Rattle.judge.proofs.LegalLaws.{state_refused}
use Rattle.judge.proofs.legal.legal.Goals as goal

pub returns-in_default : goal.returns-in_default
returns-in_default c = rw (sym c.check_schema-declared.ensures ∙ c.unwrap_err.ensures) (refused_at Err _ [] _ _ tt)

pub returns-in_default-judged : goal.returns-in_default-judged
returns-in_default-judged c =
    let declared = sym c.check_schema-declared.ensures ∙ c.in-Ok.is in
    state_refused _ _ declared (sym c.check_state-judged.ensures ∙ c.unwrap_err-in_default-judged.ensures)
