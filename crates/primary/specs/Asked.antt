-- The words that stand for the facts of an accepted query.
use Rattle.std.specs.Prelude.{ℕ, List, [], map, ◌≡◌}
use Rattle.records.specs.Layout.{query_steps}
use Rattle.records.specs.Outcome.{query_signature}
use Rattle.records.specs.SchemaRefusal.{AcceptedSchema}
use Rattle.records.specs.ConceptRefusal.{AcceptedConcept}
use Rattle.chase.specs.Task.{Task, asked, ties, task_of}
use Rattle.primary.specs.Words.{member_of, tie_of, edge_of}

-- a schema and a query, with any view
abbrev pub query_task : List ℕ → List ℕ → Task
query_task schema query = task_of schema query []

pub record Asks (schema query members equal edges : List ℕ) : Type 0 where
  pub legal : AcceptedSchema schema
  pub sound : AcceptedConcept query_steps (query_signature schema) query
  pub classes : map member_of members ≡ (asked (query_task schema query)).members
  pub tied : map tie_of equal ≡ ties (query_task schema query)
  pub related : map edge_of edges ≡ (asked (query_task schema query)).edges
