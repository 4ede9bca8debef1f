-- Accepted records make a well-formed task within the limits: they name what is declared.
use Prim.Native.Nat.{ℕ, ◌≤◌, ◌<◌}
use mathlib.Core.Bool.{false, So, ◌&&◌}
use mathlib.Core.List.{List}
use mathlib.Core.Path.{◌≡◌}
use lib.Dec.{ltb}
use borrow.Author.Tests.{ltb-true}
use Rattle.records.specs.declared.schema.Axiom.{Axiom}
use Rattle.records.specs.declared.schema.Axiom.TheVariants.{Subclass, Typing, Necessary, Single, Relates}
use Rattle.records.specs.declared.schema.Signature.{Signature}
use Rattle.records.specs.Layout.{concept_layout, entries, max_classes, max_attributes, max_constants, query_steps, view_steps, query_marks, no_marks}
use Rattle.records.specs.SchemaRecord.{signature_of, schema_of}
use Rattle.records.specs.ConceptRecord.{concept_of}
use Rattle.records.specs.SchemaRefusal.{declares, refusal_2, AcceptedSchema}
use Rattle.records.specs.ConceptRefusal.{refusal_4, refusal_5, AcceptedConcept}
use Rattle.records.specs.Marks.{allowing}
use Rattle.records.specs.Choice.{Unmarked}
use Rattle.records.specs.Outcome.{query_signature, choice_signature}
use Rattle.records.specs.Helpers.Steps.{concept_steps}
use Rattle.records.proofs.AcceptedLaws.{passes_1, passes_2, passes_4, passes_5, passes_6, axiom_declared, token_suits, accepted_concept, accepted_limit}
pub use Rattle.records.proofs.AcceptedLaws.{signature_few as accepted-signature}
use Rattle.records.proofs.MarkLaws.{accepted_used, accepted_allowing}
use Rattle.records.specs.Helpers.Declared.{DeclaredAxiom, Declared}
use Rattle.chase.specs.Task.{Task, WellFormed, task_of}
use Rattle.records.proofs.General.BoolLaws.{and_parts}
use Rattle.records.proofs.DeclaredLaws.{declared_concept, declared_unmarked}

declares_is : (s : Signature) (x : Axiom) → So (declares s x) → DeclaredAxiom s x
declares_is s (Subclass A B) h =
    let k = and_parts (ltb A s.classes) (ltb B s.classes) h in (ltb-true _ _ k.0, ltb-true _ _ k.1)
declares_is s (Typing A P B) h =
    let k = and_parts (ltb A s.classes && ltb P s.attributes) (ltb B s.classes) h in
    let l = and_parts (ltb A s.classes) (ltb P s.attributes) k.0 in
    (ltb-true _ _ l.0, ltb-true _ _ l.1, ltb-true _ _ k.1)
declares_is s (Necessary A P) h =
    let k = and_parts (ltb A s.classes) (ltb P s.attributes) h in (ltb-true _ _ k.0, ltb-true _ _ k.1)
declares_is s (Single A P) h =
    let k = and_parts (ltb A s.classes) (ltb P s.attributes) h in (ltb-true _ _ k.0, ltb-true _ _ k.1)
declares_is s (Relates P A B) h =
    let k = and_parts (ltb P s.attributes && ltb A s.classes) (ltb B s.classes) h in
    let l = and_parts (ltb P s.attributes) (ltb A s.classes) k.0 in
    (ltb-true _ _ l.0, ltb-true _ _ l.1, ltb-true _ _ k.1)

pub accepted_declared : (s : Signature) (w : List ℕ) → refusal_4 s w ≡ false → refusal_5 w ≡ false → Declared s (concept_of w)
unfolding concept_of
accepted_declared s w b c = declared_concept w s (entries concept_layout w) (token_suits s w b) (accepted_concept w c).0

pub accepted_axioms : (w : List ℕ) → refusal_2 w ≡ false → (i : ℕ) → i < (schema_of w).axioms
    → DeclaredAxiom (schema_of w).signature ((schema_of w).axiom_at i)
unfolding schema_of
accepted_axioms w a i h = declares_is (signature_of w) ((schema_of w).axiom_at i) (axiom_declared w a i h)

module _ (schema query view : List ℕ) (legal : AcceptedSchema schema) (asked : AcceptedConcept query_steps (query_signature schema) query) where
  -- under the marks that it uses
  chosen : AcceptedConcept query_steps (choice_signature schema query) query
  chosen = accepted_used query_steps (signature_of schema) query_marks query asked

  pub accepted_formed : WellFormed (task_of schema query view)
  unfolding task_of schema_of
  accepted_formed =
      let s = choice_signature schema query in
      record {
        axioms = accepted_axioms schema (passes_2 schema legal);
        query = accepted_declared s query (passes_4 query_steps s query chosen) (passes_5 query_steps s query chosen);
      }

-- a well-formed task within the limits of records
pub record Within (t : Task) : Type 0 where
  pub formed : WellFormed t
  pub classes : t.schema.signature.classes ≤ max_classes
  pub attributes : t.schema.signature.attributes ≤ max_attributes
  pub constants : t.schema.signature.constants ≤ max_constants
  pub query : concept_steps t.query ≤ query_steps
  pub view : concept_steps t.view ≤ view_steps

module _ (schema query view : List ℕ) (legal : AcceptedSchema schema) (asked : AcceptedConcept query_steps (query_signature schema) query)
    (stored : AcceptedConcept view_steps (signature_of schema) view) where
  pub accepted_within : Within (task_of schema query view)
  unfolding task_of schema_of
  accepted_within =
      let s = query_signature schema in
      let sizes = accepted-signature schema (passes_1 schema legal) in
      record {
        formed = accepted_formed schema query view legal asked;
        classes = sizes.0;
        attributes = sizes.1;
        constants = sizes.2;
        query = accepted_limit query (passes_5 query_steps s query asked) query_steps (passes_6 query_steps s query asked);
        view =
            accepted_limit view (passes_5 view_steps (signature_of schema) view stored) view_steps
            (passes_6 view_steps (signature_of schema) view stored);
      }

  -- the view is declared whichever marks are allowed, and has none
  pub accepted_view : (marks : ℕ) → Declared (allowing marks (signature_of schema)) (concept_of view)
  accepted_view marks =
      let s = allowing marks (signature_of schema) in
      let ok = accepted_allowing view_steps schema view marks stored in
      accepted_declared s view (passes_4 view_steps s view ok) (passes_5 view_steps s view ok)

  pub unmarked_view : Unmarked (concept_of view)
  unmarked_view = declared_unmarked (signature_of schema) (concept_of view) (accepted_view no_marks)
