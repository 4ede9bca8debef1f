-- Each return is by the first refusal that applies, or by none (DecisionLaws).
use mathlib.Core.List.{[]}
use mathlib.Core.Path.{sym, ◌∙◌}
use Rattle.std.specs.Prelude.{Err}
use Rattle.records.proofs.OutcomeLaws.{refused_at}
use Rattle.decide.proofs.DecisionLaws.{query_refused, view_refused, none_refused}
use Rattle.decide.proofs.check.check.Goals as goal

pub returns-in_default : goal.returns-in_default
returns-in_default c = rw (sym c.check_schema-declared.ensures ∙ c.unwrap_err.ensures) (refused_at Err _ [] _ _ tt)

pub returns-in_default-read : goal.returns-in_default-read
returns-in_default-read c =
    let declared = sym c.check_schema-declared.ensures ∙ c.in-Ok.is in
    query_refused _ _ _ declared (sym c.check_concept-read.ensures ∙ c.unwrap_err-in_default-read.ensures)

pub returns-in_default-stored : goal.returns-in_default-stored
returns-in_default-stored c =
    let declared = sym c.check_schema-declared.ensures ∙ c.in-Ok.is in
    let read = sym c.check_concept-read.ensures ∙ c.in-Ok-read.is in
    view_refused _ _ _ declared read (sym c.check_concept-stored.ensures ∙ c.unwrap_err-in_default-stored.ensures)

pub returns : goal.returns
returns c =
    let declared = sym c.check_schema-declared.ensures ∙ c.in-Ok.is in
    let read = sym c.check_concept-read.ensures ∙ c.in-Ok-read.is in
    none_refused _ _ _ declared read (sym c.check_concept-stored.ensures ∙ c.in-Ok-stored.is)
