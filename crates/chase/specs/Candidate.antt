-- The candidate: the ground and the made objects, and, where some need is left, the closing object. Objects have no gaps:
-- first those of the ground, then the made ones, then the closing object.
use Rattle.std.specs.Prelude.{ℕ, suc, Bool, cond, ◌&&◌, ◌||◌, eqb, ltb}
use Rattle.records.specs.Finite.{any}
use Rattle.records.specs.State.{State}
use Rattle.records.specs.Schema.{Schema}
use Rattle.records.specs.Helpers.Loops.{any_of}
use Rattle.chase.specs.ClassSet.{has}
use Rattle.chase.specs.Task.{Task}
use Rattle.chase.specs.Ground.{Ground, ground}
use Rattle.chase.specs.Forest.{Forest, size, kid, classes_of, lacks, walks}
use Rattle.chase.specs.Closing.{closed}

-- the query has the pair (d, e) of P
unfoldable pub links : Ground → ℕ → ℕ → ℕ → Bool
links G P d e = any_of (λ f. eqb f.attribute P && eqb f.origin d && eqb f.target e) G.edges

module _ (S : Schema) (G : Ground) (T : Forest) where
  -- some object lacks a value
  unfoldable pub lacking : Bool
  lacking = any (size G T) λ d. any S.signature.attributes λ P. lacks S G T P d

  unfoldable pub objects : ℕ
  objects = cond lacking (suc (size G T)) (size G T)

  -- without the closing object's pairs; an undeclared constant names no object
  abbrev pub chased : State
  chased =
      record {
        size = objects;
        members = λ A d. has (classes_of S G T d) A;
        pairs = λ P d e. links G P d e || eqb (kid G T P d) (suc e);
        names = λ a. cond (ltb a S.signature.constants) (G.constants a) objects;
        marks = G.marks;
      }

  abbrev pub candidate_of : State
  candidate_of = closed chased (lacks S G T) (size G T)

-- the made part for a task
unfoldable pub forest : Task → Forest
forest t = walks t.schema (ground t) t.view

abbrev pub candidate : Task → State
candidate t = candidate_of t.schema (ground t) (forest t)

-- the object that stands for the start
abbrev pub first : Task → ℕ
first t = (ground t).start
