-- A schema is refused first; once it is accepted, the answer of the catalogue's check is that of the call.
use mathlib.Core.List.{[]}
use mathlib.Core.Path.{refl, sym, ◌∙◌}
use Rattle.std.specs.Prelude.{Err}
use Rattle.records.specs.Outcome.{outcome, first_refusal}
use Rattle.records.proofs.OutcomeLaws.{refused_at, schema_signature, last_answer}
use Rattle.catalogue.proofs.check.check.Goals as goal

pub returns-in_default : goal.returns-in_default
returns-in_default c = rw (sym c.check_schema-declared.ensures ∙ c.unwrap_err.ensures) (refused_at Err _ [] _ _ tt)

pub returns : goal.returns
unfolding outcome first_refusal
returns c =
    let declared = schema_signature c.args.schema.now (sym c.check_schema-declared.ensures ∙ c.in-Ok.is) in
    rw (← c.check_schema-declared.ensures, c.in-Ok.is, ← declared.0, c.check_catalogue.ensures) (last_answer _ _ λ y e. refl)
