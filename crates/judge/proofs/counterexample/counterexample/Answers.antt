-- Each return is by the first refusal that applies, or by what is found of accepted records (CounterexampleLaws).
use mathlib.Core.List.{[]}
use mathlib.Core.Path.{sym, ap, ◌∙◌}
use Rattle.std.specs.Prelude.{Ok, Err}
use Rattle.records.proofs.OutcomeLaws.{refused_at}
use Rattle.judge.proofs.CounterexampleLaws.{accepted, query_refused, view_refused, state_refused, finding_answered}
use Rattle.judge.proofs.counterexample.counterexample.Goals as goal

pub returns-in_default : goal.returns-in_default
returns-in_default c = rw (sym c.check_schema-declared.ensures ∙ c.unwrap_err.ensures) (refused_at Err _ [] _ _ tt)

pub returns-in_default-read : goal.returns-in_default-read
returns-in_default-read c =
    let declared = sym c.check_schema-declared.ensures ∙ c.in-Ok.is in
    query_refused _ _ _ _ declared (sym c.check_concept-read.ensures ∙ c.unwrap_err-in_default-read.ensures)

pub returns-in_default-stored : goal.returns-in_default-stored
returns-in_default-stored c =
    let declared = sym c.check_schema-declared.ensures ∙ c.in-Ok.is in
    let read = sym c.check_concept-read.ensures ∙ c.in-Ok-read.is in
    view_refused _ _ _ _ declared read (sym c.check_concept-stored.ensures ∙ c.unwrap_err-in_default-stored.ensures)

pub returns-in_default-judged : goal.returns-in_default-judged
returns-in_default-judged c =
    let declared = sym c.check_schema-declared.ensures ∙ c.in-Ok.is in
    let read = sym c.check_concept-read.ensures ∙ c.in-Ok-read.is in
    let stored = sym c.check_concept-stored.ensures ∙ c.in-Ok-stored.is in
    let judged = sym c.check_state-judged.ensures ∙ c.unwrap_err-in_default-judged.ensures in
    state_refused _ _ _ _ declared read stored (rw (c.allow-chosen.ensures, c.used.ensures) at judged)

pub find-requires : goal.find-requires
find-requires c =
    let declared = sym c.check_schema-declared.ensures ∙ c.in-Ok.is in
    let read = sym c.check_concept-read.ensures ∙ c.in-Ok-read.is in
    let stored = sym c.check_concept-stored.ensures ∙ c.in-Ok-stored.is in
    let judged = sym c.check_state-judged.ensures ∙ c.in-Ok-judged.is in
    rw (c.allow-chosen.ensures, c.used.ensures) (accepted declared read stored (rw (c.allow-chosen.ensures, c.used.ensures) at judged))

pub returns : goal.returns
returns c =
    let declared = sym c.check_schema-declared.ensures ∙ c.in-Ok.is in
    let read = sym c.check_concept-read.ensures ∙ c.in-Ok-read.is in
    let stored = sym c.check_concept-stored.ensures ∙ c.in-Ok-stored.is in
    let judged = sym c.check_state-judged.ensures ∙ c.in-Ok-judged.is in
    ap Ok c.find.ensures ∙ finding_answered _ _ _ _ declared read stored (rw (c.allow-chosen.ensures, c.used.ensures) at judged)
