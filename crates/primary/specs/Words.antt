-- The query's facts as words of parts below 32: of a membership the class and the node, of a tie the two nodes, of an
-- edge the attribute, the origin and the target.
use Rattle.std.specs.Prelude.{ℕ, ◌+◌, ◌/◌, ◌%◌, ◌<◌, List, length, get_or}
use Rattle.records.specs.Layout.{max_classes}
use Rattle.records.specs.Schema.{Schema}
use Rattle.chase.specs.Bounds.{max_nodes}
use Rattle.chase.specs.Facts.{Membership, Edge}
use Rattle.chase.specs.Task.{Tie}
use Rattle.chase.specs.Primary.{Prime, type_origin, type_target, unify}
use Rattle.records.specs.Helpers.Loops.{each}

abbrev pub part : ℕ
part = 32

-- the node of mark k in a table of nodes for each number of a part
abbrev pub node_in : List ℕ → ℕ → ℕ
node_in nodes k = get_or nodes (max_nodes + k) 0

abbrev pub member_of : ℕ → Membership
member_of w = record { class = w / part; node = w % part }

abbrev pub tie_of : ℕ → Tie
tie_of w = record { left = w / part; right = w % part }

abbrev pub edge_of : ℕ → Edge
edge_of w = record { attribute = w / part / part; origin = w / part % part; target = w % part }

-- The words name nodes below n, and classes that have a place.
abbrev pub MembersIn : ℕ → List ℕ → Type 0
MembersIn n l = (i : ℕ) → i < length l → ((member_of (get_or l i 0)).class < max_classes) × ((member_of (get_or l i 0)).node < n)

abbrev pub TiesIn : ℕ → List ℕ → Type 0
TiesIn n l = (i : ℕ) → i < length l → ((tie_of (get_or l i 0)).left < n) × ((tie_of (get_or l i 0)).right < n)

pub record EdgeIn (n w : ℕ) : Type 0 where
  pub origin : (edge_of w).origin < n
  pub target : (edge_of w).target < n

abbrev pub EdgesIn : ℕ → List ℕ → Type 0
EdgesIn n l = (i : ℕ) → i < length l → EdgeIn n (get_or l i 0)

-- the two ends of an edge, the origin first
abbrev pub type_edge : Schema → Edge → Prime → Prime
type_edge S e x = type_target S e (type_origin S e x)

-- one edge against each
abbrev pub unify_row : Schema → List Edge → Edge → Prime → Prime
unify_row S l e = each (unify S e) l

pub record FactsIn (n : ℕ) (ms qs es : List ℕ) : Type 0 where
  pub members : MembersIn n ms
  pub ties : TiesIn n qs
  pub edges : EdgesIn n es
