-- Each return is by the first refusal that applies, or by what an accepted concept names.
use mathlib.Core.List.{[], ◌∷◌}
use mathlib.Core.Path.{sym, ap, ◌∙◌}
use Rattle.std.specs.Prelude.{Ok, Err}
use Rattle.records.specs.Outcome.{schema_refusal}
use Rattle.records.proofs.OutcomeLaws.{refused_at, answered_at, answer_passed, schema_signature, concept_named}
use Rattle.check_concept.proofs.check.check.Goals as goal

pub returns-in_default : goal.returns-in_default
returns-in_default g c = rw (sym c.check_schema-declared.ensures ∙ c.unwrap_err.ensures) (refused_at Err _ [] _ _ tt)

pub returns-in_default-read : goal.returns-in_default-read
returns-in_default-read g c =
    let declared = sym c.check_schema-declared.ensures ∙ c.in-Ok.is in
    let same = (schema_signature c.args.schema.now declared).0 in
    rw (rw same at (sym c.check_concept-read.ensures ∙ c.unwrap_err-in_default-read.ensures))
    (refused_at Err _ (schema_refusal c.args.schema.now ∷ []) _ _ (answer_passed declared, tt))

pub returns : goal.returns
returns g c =
    let declared = sym c.check_schema-declared.ensures ∙ c.in-Ok.is in
    let same = (schema_signature c.args.schema.now declared).0 in
    let read = rw same at (sym c.check_concept-read.ensures ∙ c.in-Ok-read.is) in
    ap Ok (concept_named _ _ _ read).0 ∙ answered_at Err _ _ (answer_passed declared, (answer_passed read, tt))
