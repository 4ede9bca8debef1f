-- What the writing of the facts relies on: an accepted schema, the ground and the made part in the array of objects, and a
-- query, its edges and its constants' nodes, within the limits.
use Rattle.std.specs.Prelude.{ℕ, ◌+◌, ◌≤◌, ◌<◌, List, ◌≡◌, length}
use Rattle.records.specs.Layout.{max_objects, max_marks}
use Rattle.records.specs.SchemaRecord.{schema_of}
use Rattle.records.specs.SchemaRefusal.{AcceptedSchema}
use Rattle.chase.specs.Candidate.{objects}
use Rattle.chase.specs.Bounds.{max_nodes}
use Rattle.primary.specs.Words.{part, node_in}
use Rattle.ground.specs.Numbers.{Inside}
use Rattle.ground.specs.Objects.{ground_in, forest_in}
use Rattle.forest.specs.Kept.{Kept}
use Rattle.candidate.specs.declared.number.Sizes.{Sizes}

pub record Ready (schema reps : List ℕ) (first : ℕ) (edges words : List ℕ) (z : Sizes) : Type 0 where
  pub legal : AcceptedSchema schema
  pub kept : Kept z.ground z.made words
  pub number : z.total ≡ objects (schema_of schema) (ground_in z.ground words edges) (forest_in z.ground z.made words)
  pub small : z.total ≤ max_objects
  pub inside : Inside reps
  pub nodes : length reps ≤ max_nodes
  pub constants : first + (schema_of schema).signature.constants ≤ length reps

-- a table with a node, of n, for each mark
pub record NodesIn (n : ℕ) (nodes : List ℕ) : Type 0 where
  pub room : length nodes ≡ part
  pub inside : (k : ℕ) → k < max_marks → node_in nodes k < n

-- what the facts of the objects rely on; beside those in the array there is the closing one at most
pub record Sized (schema words : List ℕ) (z : Sizes) : Type 0 where
  pub legal : AcceptedSchema schema
  pub kept : Kept z.ground z.made words
  pub closing : z.total ≤ z.made + 1
  pub small : z.total ≤ max_objects
