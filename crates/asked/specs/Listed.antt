-- Words that stand for facts of one kind, and how a function adds the facts that it was asked for.
use Rattle.std.specs.Prelude.{ℕ, ◌+◌, ◌-◌, ◌/◌, ◌%◌, ◌≤◌, ◌<◌, cond, List, ◌++◌, map, ◌≡◌, ltb, length, take, set}
use Rattle.records.specs.Layout.{max_tokens}
use Rattle.chase.specs.Bounds.{max_nodes}
use Rattle.chase.specs.Facts.{Side, at_node, of_mark, Equation, Facts}
use Rattle.primary.specs.Words.{part, member_of, edge_of}
use Rattle.asked.specs.declared.words.Kind.{Kind}
use Rattle.asked.specs.declared.words.Kind.TheVariants.{Members, Equations, Edges}
use Rattle.asked.specs.declared.words.Words.{Words}

-- An equation as a word: its left node, and a node or, above all nodes, a mark.
abbrev pub side_of : ℕ → Side
side_of r = cond (ltb r max_nodes) (at_node r) (of_mark (r - max_nodes))

abbrev pub equation_of : ℕ → Equation
equation_of w = record { left = w / part; right = side_of (w % part) }

-- the words in use
abbrev pub listed : Words → List ℕ
listed x = take x.count x.words

-- one word more
unfoldable pub pushed : Words → ℕ → Words
pushed x v = record { count = x.count + 1; words = set x.words x.count v }

-- there is room for one
pub record Room (x : Words) : Type 0 where
  pub count : x.count < max_tokens
  pub size : length x.words ≡ max_tokens

-- the words m stand for what the words l stand for, and then for the facts F of that kind
abbrev pub Adds : Kind → Facts → List ℕ → List ℕ → Type 0
Adds Members F l m = map member_of m ≡ map member_of l ++ F.members
Adds Equations F l m = map equation_of m ≡ map equation_of l ++ F.equations
Adds Edges F l m = map edge_of m ≡ map edge_of l ++ F.edges

-- .. and there are no more of them than the places from start to end
pub record Grown (k : Kind) (F : Facts) (start end : ℕ) (x y : Words) : Type 0 where
  pub adds : Adds k F (listed x) (listed y)
  pub fits : y.count + start ≤ x.count + end
  pub size : length y.words ≡ max_tokens
