-- The candidate as a state record, by the list of its facts in ascending order.
use Rattle.std.specs.Prelude.{ℕ, zero, suc, ◌+◌, cond, List, [], ◌∷◌, ◌++◌, map}
use Rattle.records.specs.Layout.{attribute_kinds, max_marks}
use Rattle.records.specs.Marks.{among}
use Rattle.records.specs.Schema.{Schema}
use Rattle.records.specs.Encoding.{fact, name_fact, mark_fact, state_record}
use Rattle.chase.specs.ClassSet.{has}
use Rattle.chase.specs.Task.{Task}
use Rattle.chase.specs.Ground.{Ground, ground}
use Rattle.chase.specs.Forest.{Forest, classes_of}
use Rattle.chase.specs.Candidate.{objects, forest}
use Rattle.chase.specs.Targets.{targets}

-- the lists f 0, f 1, .. in a row
unfoldable pub gather : ℕ → (ℕ → List ℕ) → List ℕ
gather zero f = []
gather (suc n) f = gather n f ++ f n

module _ (S : Schema) (G : Ground) (T : Forest) where
  unfoldable pub class_facts : ℕ → ℕ → List ℕ
  class_facts A d = cond (has (classes_of S G T d) A) (fact A d 0 ∷ []) []

  unfoldable pub pair_facts : ℕ → ℕ → List ℕ
  pair_facts P d = map (fact (attribute_kinds + P) d) (targets S G T P d)

  -- all classes, then all attributes
  unfoldable pub object_facts : List ℕ
  object_facts =
      gather S.signature.classes (λ A. gather (objects S G T) (class_facts A))
      ++ gather S.signature.attributes (λ P. gather (objects S G T) (pair_facts P))

  unfoldable pub name_facts : ℕ → List ℕ
  name_facts a = name_fact a (G.constants a) ∷ []

  unfoldable pub mark_facts : ℕ → List ℕ
  mark_facts k = cond (among G.used k) (mark_fact k (G.marks k) ∷ []) []

  -- then the constants: all that is declared
  unfoldable pub declared_facts : List ℕ
  declared_facts = object_facts ++ gather S.signature.constants name_facts

  -- then the used marks
  unfoldable pub facts : List ℕ
  facts = declared_facts ++ gather max_marks mark_facts

-- the candidate's record
unfoldable pub written : Task → List ℕ
written t = state_record (objects t.schema (ground t) (forest t)) (facts t.schema (ground t) (forest t))
