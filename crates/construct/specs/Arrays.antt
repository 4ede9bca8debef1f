-- The candidate of an accepted triple in arrays: a representative for each node, the query's edges between objects, the objects,
-- and the marks.
use Rattle.std.specs.Prelude.{ℕ, ◌-◌, ◌≤◌, ◌<◌, List, false, Option, Some, None, IsTrue, ◌≡◌, length}
use Rattle.records.specs.Layout.{query_steps, max_tokens, max_marks}
use Rattle.records.specs.SchemaRecord.{signature_of}
use Rattle.chase.specs.Task.{Task, task_of}
use Rattle.chase.specs.Primary.{clash}
use Rattle.chase.specs.Ground.{ground}
use Rattle.chase.specs.Candidate.{objects, forest, first}
use Rattle.chase.specs.Written.{declared_facts}
use Rattle.asked.specs.Listed.{listed}
use Rattle.primary.specs.Words.{node_in}
use Rattle.ground.specs.Numbers.{object_in}
use Rattle.candidate.specs.declared.number.Sizes.{Sizes}
use Rattle.candidate.specs.declared.marks.Marks.{Marks}
use Rattle.candidate.specs.declared.marks.Shape.{Shape}
use Rattle.candidate.specs.Facts.{facts_in, all_facts}
use Rattle.candidate.specs.Ready.{Ready, NodesIn}
use Rattle.construct.specs.declared.Made.{Made}

-- where the constants' nodes begin; the start's node stands before them
abbrev pub constants_from : List ℕ → List ℕ → ℕ
constants_from schema reps = length reps - (signature_of schema).constants

-- the start's object
abbrev pub start_in : List ℕ → List ℕ → ℕ
start_in schema reps = object_in reps (constants_from schema reps - 1)

-- the facts, and those of what is declared
abbrev pub listing : List ℕ → List ℕ → List ℕ → List ℕ → Shape → List ℕ
listing schema reps edges words z = all_facts schema reps (constants_from schema reps) edges words z

abbrev pub declared_in : List ℕ → List ℕ → List ℕ → List ℕ → Sizes → List ℕ
declared_in schema reps edges words z = facts_in schema reps (constants_from schema reps) edges z.ground z.made words

-- they are those of the task's candidate
pub record Arrays (t : Task) (schema reps edges words : List ℕ) (z : Sizes) : Type 0 where
  pub ready : Ready schema reps (constants_from schema reps) edges words z
  pub few : length edges ≤ query_steps
  pub begins : 0 < constants_from schema reps
  pub start : start_in schema reps ≡ first t
  pub size : z.total ≡ objects t.schema (ground t) (forest t)
  pub facts_are : declared_in schema reps edges words z ≡ declared_facts t.schema (ground t) (forest t)

-- the used marks and their objects are the task's
pub record Marked (t : Task) (reps : List ℕ) (m : Marks) : Type 0 where
  pub used : m.used ≡ t.marks
  pub nodes : NodesIn (length reps) m.nodes
  pub objects : (k : ℕ) → k < max_marks → object_in reps (node_in m.nodes k) ≡ (ground t).marks k

-- the arrays, where no two constants clash
pub record BuiltArrays (schema query view reps words : List ℕ) (m : Made) : Type 0 where
  pub apart : clash (task_of schema query view) ≡ false
  pub arrays : Arrays (task_of schema query view) schema reps (listed m.edges) words m.shape.sizes
  pub marks : Marked (task_of schema query view) reps m.shape.marks
  pub count : m.edges.count ≤ max_tokens
  pub room : length m.edges.words ≡ max_tokens

-- a clash, or the arrays
abbrev pub Built : List ℕ → List ℕ → List ℕ → List ℕ → List ℕ → Option Made → Type 0
Built schema query view reps words None = IsTrue (clash (task_of schema query view))
Built schema query view reps words (Some m) = BuiltArrays schema query view reps words m
