-- The facts of the candidate by the parts in which they are written. The ground and the made part are given by the array of
-- objects and the edges, the objects of the constants by the representatives.
use Rattle.std.specs.Prelude.{ℕ, zero, suc, ◌+◌, Bool, cond, List, [], ◌∷◌, ◌++◌, map, ltb}
use Rattle.records.specs.Finite.{any}
use Rattle.records.specs.Layout.{attribute_kinds, max_marks}
use Rattle.records.specs.declared.schema.Signature.{Signature}
use Rattle.records.specs.Marks.{allowing, allows}
use Rattle.records.specs.Schema.{Schema}
use Rattle.records.specs.SchemaRecord.{schema_of}
use Rattle.records.specs.Encoding.{fact, name_fact, mark_fact}
use Rattle.chase.specs.Ground.{Ground}
use Rattle.chase.specs.Forest.{Forest, size, kid, push, lacks}
use Rattle.chase.specs.Candidate.{links, objects}
use Rattle.chase.specs.Written.{gather, class_facts, pair_facts, object_facts}
use Rattle.primary.specs.Words.{node_in}
use Rattle.ground.specs.Objects.{ground_in, forest_in}
use Rattle.ground.specs.Numbers.{object_in}
use Rattle.candidate.specs.declared.number.Sizes.{Sizes}
use Rattle.candidate.specs.declared.marks.Shape.{Shape}
use Rattle.candidate.specs.Writing.{fact_if}

-- the pair of P from d to the object that a number stands for, if any
abbrev pub value_facts : ℕ → ℕ → ℕ → List ℕ
value_facts P d v = map (fact (attribute_kinds + P) d) (push v [])

-- the query's pair of P from d to e, if it has it, and all from d
abbrev pub link_fact : Ground → ℕ → ℕ → ℕ → List ℕ
link_fact G P d e = fact_if (links G P d e) (fact (attribute_kinds + P) d e)

abbrev pub link_facts : Ground → ℕ → ℕ → List ℕ
link_facts G P d = gather G.objects (link_fact G P d)

module _ (S : Schema) (G : Ground) (T : Forest) where
  -- the value of P at d that is not the query's, the made one or the closing object: 0 for none, e + 1 for object e
  unfoldable pub value_at : ℕ → ℕ → ℕ
  value_at P d = cond (ltb 0 (kid G T P d)) (kid G T P d) (cond (lacks S G T P d) (suc (size G T)) zero)

  -- some object lacks a value of P
  abbrev pub lacks_one : ℕ → Bool
  lacks_one P = any (size G T) (lacks S G T P)

  -- all of a class, and all of an attribute, among the first n objects
  abbrev pub class_row : ℕ → ℕ → List ℕ
  class_row n A = gather n (class_facts S G T A)

  abbrev pub pair_row : ℕ → ℕ → List ℕ
  pair_row n P = gather n (pair_facts S G T P)

-- .. of the objects in an array; the edges have no part in the members
abbrev pub members_in : List ℕ → List ℕ → Sizes → ℕ → List ℕ
members_in schema objects z =
    class_row (schema_of schema) (ground_in z.ground objects []) (forest_in z.ground z.made objects) z.total

abbrev pub pairs_in : List ℕ → List ℕ → List ℕ → Sizes → ℕ → List ℕ
pairs_in schema edges objects z =
    pair_row (schema_of schema) (ground_in z.ground objects edges) (forest_in z.ground z.made objects) z.total

-- the name of a constant, and of all; their nodes stand in a row from `first`
abbrev pub name_row : List ℕ → ℕ → ℕ → List ℕ
name_row reps first a = name_fact a (object_in reps (first + a)) ∷ []

abbrev pub name_facts : List ℕ → ℕ → ℕ → List ℕ
name_facts reps first n = gather n (name_row reps first)

-- the object of a mark, if it is used, and of all; the signature allows those that are used
abbrev pub mark_row : Signature → List ℕ → List ℕ → ℕ → List ℕ
mark_row s reps nodes k = fact_if (allows s k) (mark_fact k (object_in reps (node_in nodes k)))

abbrev pub mark_facts : Signature → List ℕ → List ℕ → List ℕ
mark_facts s reps nodes = gather max_marks (mark_row s reps nodes)

-- all facts of what is declared
abbrev pub facts_in : List ℕ → List ℕ → ℕ → List ℕ → ℕ → ℕ → List ℕ → List ℕ
facts_in schema reps first edges g n objects =
    object_facts (schema_of schema) (ground_in g objects edges) (forest_in g n objects)
    ++ name_facts reps first (schema_of schema).signature.constants

-- all facts
abbrev pub all_facts : List ℕ → List ℕ → ℕ → List ℕ → List ℕ → Shape → List ℕ
all_facts schema reps first edges objects z =
    facts_in schema reps first edges z.sizes.ground z.sizes.made objects
    ++ mark_facts (allowing z.marks.used (schema_of schema).signature) reps z.marks.nodes
