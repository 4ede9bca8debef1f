-- The facts depend on the ground through its objects, class sets and edges alone. So those of the arrays are those of the
-- task whose ground and made part the arrays hold (facts_are, marks_are).
use Prim.Native.Nat.{ℕ, zero, suc, ◌+◌, ◌≤◌, ◌<◌}
use native.Mathlib.Omega.{arith}
use mathlib.Core.Bool.{Bool, cond}
use mathlib.Core.List.{List, [], ◌∷◌, ◌++◌}
use mathlib.Core.Path.{◌≡◌, sym, ap, ap₂, ◌∙◌}
use lib.Dec.{ltb}
use Rattle.records.specs.Layout.{query_steps, view_steps, max_constants, max_marks, max_objects, attribute_kinds}
use Rattle.records.specs.declared.schema.Signature.{Signature}
use Rattle.records.specs.Schema.{Schema}
use Rattle.records.specs.SchemaRecord.{schema_of}
use Rattle.records.specs.Encoding.{fact, name_fact, mark_fact}
use Rattle.chase.specs.ClassSet.{has}
use Rattle.records.specs.Marks.{allowing, among}
use Rattle.chase.specs.Ground.{Ground, ground_of, ground}
use Rattle.chase.specs.Primary.{primary}
use Rattle.records.specs.Helpers.Steps.{concept_steps}
use Rattle.chase.specs.Task.{Task, WellFormed}
use Rattle.chase.specs.Forest.{Forest}
use Rattle.chase.specs.Candidate.{objects, forest}
use Rattle.chase.specs.Written.{gather, class_facts, pair_facts, object_facts, name_facts as named, mark_facts as marked, declared_facts}
use Rattle.chase.proofs.Answers.{is_small}
use Rattle.chase.proofs.GatherLaws.{gather_each, gather_below}
use Rattle.primary.specs.Formed.{prime}
use Rattle.primary.specs.Words.{node_in}
use Rattle.ground.specs.Agrees.{Agrees}
use Rattle.ground.specs.Numbers.{object_in}
use Rattle.ground.specs.Objects.{ground_in, forest_in}
use Rattle.ground.proofs.GroundLaws.{constant_object}
use Rattle.forest.proofs.SameLaws.{size_same, kid_same, classes_of_same, links_same, lacks_same, objects_same}
use Rattle.candidate.specs.Writing.{fact_if}
use Rattle.candidate.specs.Facts.{value_facts, link_fact, link_facts, value_at, class_row, name_facts, mark_facts, facts_in}
use Rattle.candidate.proofs.PairLaws.{pair_parts}

class_same : (G H : Ground) → G.objects ≡ H.objects → G.sets ≡ H.sets → (S : Schema) (T : Forest) (A d : ℕ)
    → class_facts S G T A d ≡ class_facts S H T A d
unfolding class_facts
class_same G H number sets S T A d = ap (λ (c : ℕ). fact_if (has c A) (fact A d 0)) (classes_of_same G H number sets S T d)

-- the edges have no part in the members
pub members_same : (G H : Ground) → G.objects ≡ H.objects → G.sets ≡ H.sets → (S : Schema) (T : Forest) (n total : ℕ)
    → gather n (class_row S G T total) ≡ gather n (class_row S H T total)
members_same G H number sets S T n total = gather_each _ _ (λ A. gather_each _ _ (class_same G H number sets S T A) total) n

module _ (G H : Ground) (same : Agrees G H) (S : Schema) (T : Forest) where
  link_same : (P d : ℕ) → link_facts G P d ≡ link_facts H P d
  link_same P d =
      ap (λ (n : ℕ). gather n (link_fact G P d)) same.objects
      ∙ gather_each _ _ (λ e. ap (λ (b : Bool). fact_if b (fact (attribute_kinds + P) d e)) (links_same same P d e)) H.objects

  value_same : (P d : ℕ) → value_at S G T P d ≡ value_at S H T P d
  unfolding value_at
  value_same P d =
      ap₂ (λ (k v : ℕ). cond (ltb 0 k) k v) (kid_same G H same.objects T P d)
      (ap₂ (λ (b : Bool) (n : ℕ). cond b (suc n) zero) (lacks_same same S T P d) (size_same G H same.objects T))

  pair_same : (P d : ℕ) → pair_facts S G T P d ≡ pair_facts S H T P d
  pair_same P d =
      pair_parts S G T P d ∙ ap₂ (λ (l : List ℕ) (v : ℕ). l ++ value_facts P d v) (link_same P d) (value_same P d)
      ∙ sym (pair_parts S H T P d)

  rows_same : (f g : ℕ → ℕ → List ℕ) → ((i d : ℕ) → f i d ≡ g i d) → (n : ℕ)
      → gather n (λ i. gather (objects S G T) (f i)) ≡ gather n (λ i. gather (objects S H T) (g i))
  rows_same f g h n =
      ap (λ (m : ℕ). gather n (λ i. gather m (f i))) (objects_same same S T)
      ∙ gather_each _ _ (λ i. gather_each _ _ (h i) (objects S H T)) n

  facts_same : object_facts S G T ≡ object_facts S H T
  unfolding object_facts
  facts_same =
      ap₂ ◌++◌ (rows_same (class_facts S G T) (class_facts S H T) (class_same G H same.objects same.sets S T) S.signature.classes)
      (rows_same (pair_facts S G T) (pair_facts S H T) pair_same S.signature.attributes)

-- the arrays hold the ground and the made part of the task
module _ (t : Task) (schema edges words : List ℕ) (g n : ℕ) (is : schema_of schema ≡ t.schema)
    (same : Agrees (ground_in g words edges) (ground t)) (made : forest_in g n words ≡ forest t) where
  pub objects_are : objects (schema_of schema) (ground_in g words edges) (forest_in g n words) ≡ objects t.schema (ground t) (forest t)
  objects_are =
      ap₂ (λ (S : Schema) (T : Forest). objects S (ground_in g words edges) T) is made
      ∙ objects_same same t.schema (forest t)

  -- .. and they are few enough for a state
  pub objects_few : WellFormed t → concept_steps t.query ≤ query_steps → concept_steps t.view ≤ view_steps
      → t.schema.signature.constants ≤ max_constants
      → objects (schema_of schema) (ground_in g words edges) (forest_in g n words) ≤ max_objects
  objects_few formed q v c = omega (arith, objects_are, is_small t formed q v c)

  pub facts_are : (reps sets : List ℕ) → prime reps sets ≡ primary t
      → facts_in schema reps (suc (concept_steps t.query)) edges g n words ≡ declared_facts t.schema (ground t) (forest t)
  unfolding declared_facts named
  facts_are reps sets q =
      ap₂ ◌++◌
      (ap₂ (λ (S : Schema) (T : Forest). object_facts S (ground_in g words edges) T) is made
      ∙ facts_same (ground_in g words edges) (ground t) same t.schema (forest t))
      (ap (λ (S : Schema). name_facts reps (suc (concept_steps t.query)) S.signature.constants) is
      ∙ gather_each _ _ (λ a. ap (λ (d : ℕ). name_fact a d ∷ []) (constant_object t reps sets q a)) t.schema.signature.constants)

-- those of the used marks
pub marks_are : (t : Task) (reps nodes : List ℕ) (used : ℕ) (s : Signature) → used ≡ t.marks
    → ((k : ℕ) → k < max_marks → object_in reps (node_in nodes k) ≡ (ground t).marks k)
    → mark_facts (allowing used s) reps nodes ≡ gather max_marks (marked t.schema (ground t) (forest t))
unfolding marked ground ground_of
marks_are t reps nodes used s u are =
    gather_below _ _ max_marks (λ k h. ap₂ (λ (m d : ℕ). fact_if (among m k) (mark_fact k d)) u (are k h))
