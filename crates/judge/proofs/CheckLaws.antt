-- What the checks of accepted records give.
use Prim.Native.Nat.{ℕ}
use mathlib.Core.List.{List}
use mathlib.Core.Path.{◌≡◌}
use Rattle.std.specs.Prelude.{Ok}
use Rattle.records.specs.declared.schema.Signature.{Signature}
use Rattle.records.specs.declared.named.Named.{Named}
use Rattle.records.specs.Layout.{no_marks}
use Rattle.records.specs.Marks.{allowing}
use Rattle.records.specs.SchemaRecord.{signature_of}
use Rattle.records.specs.SchemaRefusal.{schema_answer}
use Rattle.records.specs.ConceptRefusal.{concept_answer, AcceptedConcept}
use Rattle.records.proofs.OutcomeLaws.{declared_by, concept_named}

-- a concept without marks is accepted under the signature of its schema
pub plain_accepted : (limit : ℕ) (schema concept : List ℕ) {s : Signature} {x : Named} → schema_answer schema ≡ Ok s
    → concept_answer limit (allowing no_marks s) concept ≡ Ok x → AcceptedConcept limit s concept
plain_accepted limit schema concept d p =
    let same = declared_by schema d in
    let read = concept_named limit (signature_of schema) concept (rw same.2 at p) in
    rw same.0 read.1
