-- An object has the classes of its word, and the closing object all.
use mathlib.Core.Path.{sym, ◌∙◌}
use Rattle.records.specs.SchemaRecord.{schema_of}
use Rattle.forest.proofs.ObjectLaws.{classes_laid, classes_closing}
use Rattle.forest.proofs.objects.classes_of.Goals as goal

pub returns-then-d-n : goal.returns-then-d-n
returns-then-d-n c = λ edges. c.classes_at.ensures ∙ sym (classes_laid (schema_of c.args.schema.now) _ _ _ c.requires.1.laid edges _ c.if-d-n.true)

pub returns-else-d-n : goal.returns-else-d-n
returns-else-d-n c = λ edges. c.full.ensures ∙ sym (classes_closing (schema_of c.args.schema.now) _ _ _ c.requires.1.laid edges _ c.if-d-n.false)
