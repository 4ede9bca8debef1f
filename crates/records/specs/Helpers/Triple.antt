-- What a decision is asked about: an accepted schema, query and view.
use Rattle.std.specs.Prelude.{ℕ, List}
use Rattle.records.specs.Layout.{query_steps, view_steps}
use Rattle.records.specs.SchemaRecord.{signature_of}
use Rattle.records.specs.Outcome.{query_signature}
use Rattle.records.specs.SchemaRefusal.{AcceptedSchema}
use Rattle.records.specs.ConceptRefusal.{AcceptedConcept}

pub record Triple (schema query view : List ℕ) : Type 0 where
  pub schema_accepted : AcceptedSchema schema
  pub query_accepted : AcceptedConcept query_steps (query_signature schema) query
  pub view_accepted : AcceptedConcept view_steps (signature_of schema) view
