-- Each return is by the first refusal that applies, or by none (CheckedLaws).
use mathlib.Core.List.{[]}
use mathlib.Core.Path.{sym, ap, ◌∙◌}
use native.Mathlib.Omega.{arith}
use Rattle.std.specs.Prelude.{Ok, Err}
use Rattle.records.proofs.OutcomeLaws.{refused_at, declared_by}
use Rattle.links.proofs.CheckedLaws.{concept_refused, state_refused, attribute_refused, signature_answered}
use Rattle.links.proofs.check.Goals as goal

pub returns-in_default : goal.returns-in_default
returns-in_default c = rw (sym c.check_schema-declared.ensures ∙ c.unwrap_err.ensures) (refused_at Err _ [] _ _ tt)

pub returns-in_default-read : goal.returns-in_default-read
returns-in_default-read c =
    let declared = sym c.check_schema-declared.ensures ∙ c.in-Ok.is in
    concept_refused _ _ _ _ declared (sym c.check_concept-read.ensures ∙ c.unwrap_err-in_default-read.ensures)

pub returns-in_default-judged : goal.returns-in_default-judged
returns-in_default-judged c =
    let declared = sym c.check_schema-declared.ensures ∙ c.in-Ok.is in
    let read = sym c.check_concept-read.ensures ∙ c.in-Ok-read.is in
    state_refused _ _ _ _ declared read (sym c.check_state-judged.ensures ∙ c.unwrap_err-in_default-judged.ensures)

pub returns-then-s-attribute : goal.returns-then-s-attribute
returns-then-s-attribute c =
    let declared = sym c.check_schema-declared.ensures ∙ c.in-Ok.is in
    let read = sym c.check_concept-read.ensures ∙ c.in-Ok-read.is in
    let judged = sym c.check_state-judged.ensures ∙ c.in-Ok-judged.is in
    attribute_refused _ _ _ _ declared read judged (omega (arith, c.if-s-attribute.true))

pub returns : goal.returns
returns c =
    let declared = sym c.check_schema-declared.ensures ∙ c.in-Ok.is in
    let read = sym c.check_concept-read.ensures ∙ c.in-Ok-read.is in
    let judged = sym c.check_state-judged.ensures ∙ c.in-Ok-judged.is in
    ap Ok (declared_by _ declared).0 ∙ signature_answered _ _ _ _ declared read judged (omega (arith, c.if-s-attribute.false))
