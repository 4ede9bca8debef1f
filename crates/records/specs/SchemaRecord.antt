-- Document 01, "Records": the schema that a record stands for.
use Rattle.std.specs.Prelude.{ℕ, ◌/◌, ◌%◌, List, cond, eqb}
use Rattle.records.specs.declared.schema.Axiom.{Axiom}
use Rattle.records.specs.declared.schema.Axiom.TheVariants.{Subclass, Typing, Necessary, Single, Relates}
use Rattle.records.specs.declared.schema.Signature.{Signature}
use Rattle.records.specs.Schema.{Schema}
use Rattle.records.specs.Layout.{schema_layout, size_at, entries, left_at, right_at, byte_part, no_marks}

-- (The schema's own signature allows no mark.)
unfoldable pub signature_of : List ℕ → Signature
signature_of w =
    record { classes = size_at w 0; attributes = size_at w 1; constants = size_at w 2; loose = size_at w 4; marks = no_marks }

-- Left is the kind and the subject: class A for kinds 1 to 4, attribute P for kind 5.
unfoldable pub axiom_kind : ℕ → ℕ
axiom_kind left = left / byte_part

-- Right is B for kind 1; P and B for kind 2; P for kinds 3 and 4; A1 and A2 for kind 5. (Another kind is refused.)
unfoldable pub axiom_of : ℕ → ℕ → Axiom
axiom_of left right =
    cond (eqb (axiom_kind left) 1) (Subclass (left % byte_part) right)
    (cond (eqb (axiom_kind left) 2) (Typing (left % byte_part) (right / byte_part) (right % byte_part))
    (cond (eqb (axiom_kind left) 3) (Necessary (left % byte_part) right)
    (cond (eqb (axiom_kind left) 4) (Single (left % byte_part) right)
    (Relates (left % byte_part) (right / byte_part) (right % byte_part)))))

unfoldable pub schema_of : List ℕ → Schema
schema_of w =
    record {
      signature = signature_of w;
      axioms = entries schema_layout w;
      axiom_at = λ i. axiom_of (left_at schema_layout w i) (right_at schema_layout w i);
    }
