-- What a concept asks of the objects that witness it. A node is a number that stands for such an object: a step's number for
-- the object on which the step lands, then numbers for the start and for the constants. A mark has no node of its own: it stands
-- at other nodes.
-- Of two operands the right one comes first, since the tokens are read from the right.
use Rattle.std.specs.Prelude.{ℕ, ◌+◌, List, [], ◌∷◌, ◌++◌}
use Rattle.records.specs.Concept.{Direction, forward, backward, Concept, class, everything, constant, both, reached, common, mark, Path, empty, step}
use Rattle.records.specs.Helpers.Steps.{concept_steps, path_steps}

-- the node is in the class
pub record Membership : Type 0 where
  pub class : ℕ
  pub node : ℕ

-- what a node is said to be: a node, or the object of a mark
pub data Side : Type 0 where
  at_node : ℕ → Side
  of_mark : ℕ → Side

-- the two are one object
pub record Equation : Type 0 where
  pub left : ℕ
  pub right : Side

-- the two nodes are a pair of the attribute
pub record Edge : Type 0 where
  pub attribute : ℕ
  pub origin : ℕ
  pub target : ℕ

pub record Facts : Type 0 where
  pub members : List Membership
  pub equations : List Equation
  pub edges : List Edge

abbrev pub none : Facts
none = record { members = []; equations = []; edges = [] }

abbrev pub member : ℕ → ℕ → Facts
member A n = record { members = record { class = A; node = n } ∷ []; equations = []; edges = [] }

abbrev pub equal : ℕ → Side → Facts
equal n m = record { members = []; equations = record { left = n; right = m } ∷ []; edges = [] }

abbrev pub related : Direction → ℕ → ℕ → ℕ → Facts
related forward P n m = record { members = []; equations = []; edges = record { attribute = P; origin = n; target = m } ∷ [] }
related backward P n m = record { members = []; equations = []; edges = record { attribute = P; origin = m; target = n } ∷ [] }

infixl 40 ◌⊕◌
abbrev pub ◌⊕◌ : Facts → Facts → Facts
F ⊕ G =
    record {
      members = F.members ++ G.members;
      equations = F.equations ++ G.equations;
      edges = F.edges ++ G.edges;
    }

-- the node at the end of a path that starts at node n and whose steps are numbered from k
abbrev pub end_node : Path → ℕ → ℕ → ℕ
end_node empty n k = n
end_node (step p r P C) n k = k + path_steps p + concept_steps C

-- the facts of a concept at node n, and of a path from node n; their steps are numbered from k, and `first` is the first
-- constant's node
module _ (first : ℕ) where
  abbrev mutual
    pub concept_facts : Concept → ℕ → ℕ → Facts
    concept_facts (class A) n k = member A n
    concept_facts everything n k = none
    concept_facts (constant a) n k = equal n (at_node (first + a))
    concept_facts (both C D) n k = concept_facts D n (k + concept_steps C) ⊕ concept_facts C n k
    concept_facts (reached p) n k = path_facts p n k
    concept_facts (common p q) n k =
        path_facts q n (k + path_steps p) ⊕ equal (end_node p n k) (at_node (end_node q n (k + path_steps p))) ⊕ path_facts p n k
    concept_facts (mark m) n k = equal n (of_mark m)

    pub path_facts : Path → ℕ → ℕ → Facts
    path_facts empty n k = none
    path_facts (step p r P C) n k =
        concept_facts C (k + path_steps p + concept_steps C) (k + path_steps p)
        ⊕ related r P (end_node p n k) (k + path_steps p + concept_steps C) ⊕ path_facts p n k
