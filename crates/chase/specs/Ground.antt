-- The closed primary part with its representatives numbered without gaps: the first objects of the candidate.
use Rattle.std.specs.Prelude.{ℕ, Bool, cond, List, [], ◌∷◌, ◌++◌, map, eqb, get_or}
use Rattle.records.specs.Finite.{count}
use Rattle.records.specs.Helpers.Loops.{upto}
use Rattle.chase.specs.Facts.{Edge}
use Rattle.chase.specs.Task.{Task, nodes, start_node, constant_node, mark_node, asked}
use Rattle.chase.specs.Primary.{Prime, rep_of, set_of, primary}

-- how many objects; the class set of each; the pairs of the query; the constants' objects; the set of the used marks, and the
-- marks' objects; the start
pub record Ground : Type 0 where
  pub objects : ℕ
  pub sets : List ℕ
  pub edges : List Edge
  pub constants : ℕ → ℕ
  pub used : ℕ
  pub marks : ℕ → ℕ
  pub start : ℕ

-- the class set of object d
abbrev pub set_at : Ground → ℕ → ℕ
set_at G d = get_or G.sets d 0

-- node n is its own representative
unfoldable pub live : Prime → ℕ → Bool
live x n = eqb (rep_of x n) n

-- a node's object: how many representatives stand before its own
unfoldable pub object_of : Prime → ℕ → ℕ
object_of x n = count (rep_of x n) (live x)

-- the values of f at the numbers below n that pass the test, in order
unfoldable pub listing : (ℕ → Bool) → (ℕ → ℕ) → ℕ → List ℕ
listing test f n = upto (λ i l. cond (test i) (l ++ (f i ∷ [])) l) n []

abbrev pub renumber : Prime → Edge → Edge
renumber x e = record { attribute = e.attribute; origin = object_of x e.origin; target = object_of x e.target }

unfoldable pub ground_of : Task → Prime → Ground
ground_of t x =
    record {
      objects = count (nodes t) (live x);
      sets = listing (live x) (set_of x) (nodes t);
      edges = map (renumber x) (asked t).edges;
      constants = λ a. object_of x (constant_node t a);
      used = t.marks;
      marks = λ k. object_of x (mark_node t k);
      start = object_of x (start_node t);
    }

unfoldable pub ground : Task → Ground
ground t = ground_of t (primary t)
