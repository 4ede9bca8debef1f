-- The facts that a query asks, of one kind, and what its equations say of nodes.
use Rattle.std.specs.Prelude.{ℕ, ◌+◌, ◌≤◌, ◌<◌, List, map, ◌≡◌, length}
use Rattle.records.specs.Layout.{max_tokens}
use Rattle.chase.specs.Facts.{Facts}
use Rattle.chase.specs.Task.{asked, mark_node, ties}
use Rattle.primary.specs.Words.{part, node_in, member_of, tie_of, edge_of}
use Rattle.chase.specs.Bounds.{max_nodes}
use Rattle.primary.specs.Asked.{query_task}
use Rattle.asked.specs.declared.words.Kind.{Kind}
use Rattle.asked.specs.declared.words.Kind.TheVariants.{Members, Equations, Edges}
use Rattle.asked.specs.declared.words.Words.{Words}
use Rattle.asked.specs.declared.ties.Tied.{Tied}
use Rattle.asked.specs.Listed.{equation_of, listed}

-- the words stand for the facts of that kind
abbrev pub Says : Kind → List ℕ → Facts → Type 0
Says Members l F = map member_of l ≡ F.members
Says Equations l F = map equation_of l ≡ F.equations
Says Edges l F = map edge_of l ≡ F.edges

pub record Asked (schema query : List ℕ) (k : Kind) (r : Words) : Type 0 where
  pub count : r.count ≤ max_tokens
  pub size : length r.words ≡ max_tokens
  pub says : Says k (listed r) (asked (query_task schema query))

-- the words stand for the ties, and the nodes are those of the marks
pub record IsTied (schema query : List ℕ) (r : Tied) : Type 0 where
  pub count : r.ties.count ≤ max_tokens
  pub size : length r.ties.words ≡ max_tokens
  pub says : map tie_of (listed r.ties) ≡ ties (query_task schema query)
  pub room : length r.nodes ≡ part
  pub marks : (k : ℕ) → max_nodes + k < part → node_in r.nodes k ≡ mark_node (query_task schema query) k
