-- What is put to the decision: a schema, a query and a view; and what the query asks of its nodes.
use Rattle.std.specs.Prelude.{ℕ, zero, suc, ◌+◌, ◌<◌, Bool, false, cond, List, map, eqb}
use Rattle.records.specs.declared.schema.Signature.{Signature}
use Rattle.records.specs.Schema.{Schema}
use Rattle.records.specs.SchemaRecord.{schema_of}
use Rattle.records.specs.ConceptRecord.{concept_of}
use Rattle.records.specs.Concept.{Concept}
use Rattle.records.specs.Marks.{allowing, used_marks}
use Rattle.records.specs.Helpers.Declared.{DeclaredAxiom, Declared}
use Rattle.records.specs.Helpers.Steps.{concept_steps}
use Rattle.records.specs.Helpers.Loops.{each}
use Rattle.chase.specs.Facts.{Side, at_node, of_mark, Equation, Facts, concept_facts}

pub record Task : Type 0 where
  pub schema : Schema
  pub query : Concept
  pub view : Concept
  -- the set of the marks that the query uses
  pub marks : ℕ

-- what the query may name
abbrev pub signature : Task → Signature
signature t = allowing t.marks t.schema.signature

-- the axioms and the query name only what is declared
pub record WellFormed (t : Task) : Type 0 where
  pub axioms : (i : ℕ) → i < t.schema.axioms → DeclaredAxiom t.schema.signature (t.schema.axiom_at i)
  pub query : Declared (signature t) t.query

-- The nodes: the query's steps, the start, the constants.
abbrev pub start_node : Task → ℕ
start_node t = concept_steps t.query

abbrev pub constant_node : Task → ℕ → ℕ
constant_node t a = suc (concept_steps t.query) + a

abbrev pub nodes : Task → ℕ
nodes t = suc (concept_steps t.query) + t.schema.signature.constants

-- what the query asks of its nodes
unfoldable pub asked : Task → Facts
asked t = concept_facts (suc (concept_steps t.query)) t.query (concept_steps t.query) zero

-- the equation says that its left node is mark k
abbrev pub stands : ℕ → Equation → Bool
stands k f = elim f.right [ at_node n ↦ false | of_mark j ↦ eqb k j ]

-- the node of the last equation in which mark k stands, or d
abbrev pub later : ℕ → Equation → ℕ → ℕ
later k f d = cond (stands k f) f.left d

abbrev pub anchor : ℕ → List Equation → ℕ → ℕ
anchor d l k = each (later k) l d

-- a mark's node: one of those at which it stands
unfoldable pub mark_node : Task → ℕ → ℕ
mark_node t k = anchor (start_node t) (asked t).equations k

-- two nodes that are one object
pub record Tie : Type 0 where
  pub left : ℕ
  pub right : ℕ

-- the node that a side is, by the nodes of the marks
abbrev pub side_node : (ℕ → ℕ) → Side → ℕ
side_node at (at_node n) = n
side_node at (of_mark k) = at k

abbrev pub tie : (ℕ → ℕ) → Equation → Tie
tie at f = record { left = f.left; right = side_node at f.right }

-- what the equations say of nodes: all nodes at which one mark stands are one object
unfoldable pub ties : Task → List Tie
ties t = map (tie (mark_node t)) (asked t).equations

-- the task of three records
unfoldable pub task_of : List ℕ → List ℕ → List ℕ → Task
task_of schema query view =
    record { schema = schema_of schema; query = concept_of query; view = concept_of view; marks = used_marks query }
