-- The closed primary part of a query in two lists, with the query's edges, and the ground that is made of it.
use Rattle.std.specs.Prelude.{ℕ, ◌<◌, List, map, ◌≡◌, length}
use Rattle.records.specs.Layout.{query_steps, max_marks}
use Rattle.records.specs.Marks.{used_marks}
use Rattle.records.specs.Outcome.{query_signature}
use Rattle.records.specs.SchemaRefusal.{AcceptedSchema}
use Rattle.records.specs.ConceptRefusal.{AcceptedConcept}
use Rattle.chase.specs.Task.{asked, nodes, mark_node}
use Rattle.chase.specs.Primary.{primary}
use Rattle.primary.specs.Formed.{Becomes, prime as prime_of}
use Rattle.ground.specs.Numbers.{renumber_in}
use Rattle.ground.specs.Laying.{Grounds}
use Rattle.primary.specs.Words.{part, node_in, edge_of, EdgesIn}
use Rattle.primary.specs.Asked.{query_task}
use Rattle.candidate.specs.declared.marks.Marks.{Marks}

-- an accepted schema and query
pub record Pair (schema query : List ℕ) : Type 0 where
  pub schema_accepted : AcceptedSchema schema
  pub query_accepted : AcceptedConcept query_steps (query_signature schema) query

-- two lists with an entry for each node
pub record Nodes (schema query reps sets : List ℕ) : Type 0 where
  pub reps_length : length reps ≡ nodes (query_task schema query)
  pub sets_length : length sets ≡ nodes (query_task schema query)

-- the primary part, and words that stand for the query's edges
pub record Closed (schema query reps sets words : List ℕ) : Type 0 where
  pub prime : Becomes (nodes (query_task schema query)) reps sets (primary (query_task schema query))
  pub edges : map edge_of words ≡ (asked (query_task schema query)).edges
  pub inside : EdgesIn (nodes (query_task schema query)) words

-- the marks that the query uses, and the nodes of the marks
pub record MarksOf (schema query : List ℕ) (m : Marks) : Type 0 where
  pub used : m.used ≡ used_marks query
  pub room : length m.nodes ≡ part
  pub nodes : (k : ℕ) → k < max_marks → node_in m.nodes k ≡ mark_node (query_task schema query) k

-- the g objects of the ground in an array, and words that stand for the edges between them
pub record Laid (schema query reps sets words objects : List ℕ) (g : ℕ) : Type 0 where
  pub prime : Becomes (nodes (query_task schema query)) reps sets (primary (query_task schema query))
  pub ground : Grounds (prime_of reps sets) (length reps) g objects
  pub edges : map edge_of words ≡ map (renumber_in reps) (asked (query_task schema query)).edges
