-- The primary part: the query's nodes, closed under its facts and the axioms. It makes no objects; nodes that are found to be
-- one object are merged. A node's representative is its own number or a higher one, so that everything only grows.
use Rattle.std.specs.Prelude.{ℕ, zero, suc, ◌+◌, ◌*◌, ◌^◌, Bool, cond, ◌&&◌, List, [], ◌∷◌, map, eqb, ltb, get_or, set, replicate}
use Rattle.std.specs.Int.Bits.{bit_or}
use Rattle.records.specs.Finite.{any}
use Rattle.records.specs.State.{repeats}
use Rattle.records.specs.Schema.{Schema}
use Rattle.records.specs.Helpers.Loops.{each, upto, settle}
use Rattle.chase.specs.ClassSet.{place}
use Rattle.chase.specs.Axioms.{domain, values, is_single, raise}
use Rattle.chase.specs.Facts.{Membership, Edge}
use Rattle.chase.specs.Task.{Task, nodes, constant_node, asked, Tie, ties}

-- for each node its representative, and a class set, of which that at the representative counts
pub record Prime : Type 0 where
  pub reps : List ℕ
  pub sets : List ℕ

unfoldable pub rep_of : Prime → ℕ → ℕ
rep_of x n = get_or x.reps n 0

unfoldable pub set_of : Prime → ℕ → ℕ
set_of x n = get_or x.sets (rep_of x n) 0

-- more classes at node n
unfoldable pub add : ℕ → ℕ → Prime → Prime
add n c x = record { reps = x.reps; sets = set x.sets (rep_of x n) (bit_or (set_of x n) c) }

-- the nodes of representative low go to representative high
unfoldable pub join : ℕ → ℕ → Prime → Prime
join low high x =
    record {
      reps = map (λ r. cond (eqb r low) high r) x.reps;
      sets = set x.sets high (bit_or (get_or x.sets high 0) (get_or x.sets low 0));
    }

-- nodes n and m are one object
unfoldable pub merge : ℕ → ℕ → Prime → Prime
merge n m x =
    cond (ltb (rep_of x n) (rep_of x m)) (join (rep_of x n) (rep_of x m) x)
    (cond (ltb (rep_of x m) (rep_of x n)) (join (rep_of x m) (rep_of x n) x)
    x)

-- The rules: what the query says ..
abbrev pub equate : Tie → Prime → Prime
equate f x = merge f.left f.right x

abbrev pub assert : Membership → Prime → Prime
assert f x = add f.node (place f.class) x

-- .. and what the axioms say of a node, of the two ends of an edge, and of two edges
module _ (S : Schema) where
  abbrev pub lift : ℕ → Prime → Prime
  lift n x = add n (raise S (set_of x n)) x

  abbrev pub type_origin : Edge → Prime → Prime
  type_origin e x = add e.origin (domain S e.attribute) x

  abbrev pub type_target : Edge → Prime → Prime
  type_target e x = add e.target (values S (set_of x e.origin) e.attribute) x

  -- the two edges are two values of one attribute at one node that has at most one
  abbrev pub rival : Edge → Edge → Prime → Bool
  rival e f x =
      eqb e.attribute f.attribute && eqb (rep_of x e.origin) (rep_of x f.origin) && is_single S (set_of x e.origin)
      e.attribute

  abbrev pub unify : Edge → Edge → Prime → Prime
  unify e f x = cond (rival e f x) (merge e.target f.target x) x

-- one round of all rules
module _ (t : Task) where
  abbrev pub equate_all : Prime → Prime
  equate_all = each equate (ties t)

  abbrev pub assert_all : Prime → Prime
  assert_all = each assert (asked t).members

  abbrev pub lift_all : Prime → Prime
  lift_all = upto (lift t.schema) (nodes t)

  abbrev pub type_all : Prime → Prime
  type_all = each (λ e x. type_target t.schema e (type_origin t.schema e x)) (asked t).edges

  abbrev pub unify_all : Prime → Prime
  unify_all = each (λ e. each (unify t.schema e) (asked t).edges) (asked t).edges

  abbrev pub pass : Prime → Prime
  pass x = unify_all (type_all (lift_all (assert_all (equate_all x))))

abbrev pub total : List ℕ → ℕ
total [] = zero
total (x ∷ l) = x + total l

abbrev pub weight : Prime → ℕ
weight x = total x.reps + total x.sets

-- k, k + 1, .. (n numbers)
abbrev pub numbers_from : ℕ → ℕ → List ℕ
numbers_from k zero = []
numbers_from k (suc n) = k ∷ numbers_from (suc k) n

-- each node by itself, with no class
unfoldable pub begin : Task → Prime
begin t = record { reps = numbers_from 0 (nodes t); sets = replicate (nodes t) 0 }

-- more than any weight
abbrev pub bound : Task → ℕ
bound t = nodes t * nodes t + nodes t * 2 ^ t.schema.signature.classes

-- passes from x on, until the weight stands still
unfoldable pub settled : Task → Prime → Prime
settled t = settle weight (pass t) (suc (bound t))

unfoldable pub primary : Task → Prime
primary t = settled t (begin t)

-- two declared constants that are to differ are one object
unfoldable pub clash : Task → Bool
clash t = any t.schema.signature.constants (repeats t.schema.signature λ a. rep_of (primary t) (constant_node t a))
