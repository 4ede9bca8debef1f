-- What the check of a schema answers once its shape is right, by two tests.
use Rattle.std.specs.Prelude.{Bool, cond, Result, Ok, Err}
use Rattle.records.specs.declared.schema.Signature.{Signature}
use Rattle.records.specs.declared.refusal.Refusal.{Refusal}
use Rattle.records.specs.declared.refusal.Refusal.TheVariants as refusal

-- refusal 14, then 2, or what the schema declares, by the two tests
abbrev pub content_answer : Signature → Bool → Bool → Result Signature Refusal
content_answer s undeclared faulty = cond undeclared (Err refusal.SchemaLoose) (cond faulty (Err refusal.SchemaAxiom) (Ok s))
