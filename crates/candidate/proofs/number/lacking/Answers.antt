-- Some attribute is lacking.
use borrow.Author.Rules.{rules}
use mathlib.Core.Path.{◌∙◌, ap}
use Rattle.std.proofs.Common.{tests}
use Rattle.records.specs.SchemaRecord.{schema_of}
use Rattle.records.specs.declared.schema.Signature.{Signature}
use Rattle.records.proofs.General.RangeLaws.{any_below}
use Rattle.candidate.specs.Facts.{lacks_one}
use Rattle.candidate.proofs.SearchLaws.{lacking_any}
use Rattle.candidate.proofs.number.lacking.Goals as goal

pub returns : goal.returns
unfolding schema_of
returns c =
    any_below {test = lacks_one (schema_of c.args.schema.now) _ _} c.any.ensures.ran (λ x b q k. search (rules, tests))
    ∙ lacking_any _ _ _ _ (ap (λ (s : Signature). s.attributes) c.signature_of-s.ensures)
