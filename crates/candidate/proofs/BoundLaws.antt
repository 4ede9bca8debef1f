-- There are no more facts than the objects can make, with a fact for each mark, and no more of those than a state can have.
use Prim.Native.Nat.{ℕ, ◌+◌, ◌*◌, ◌≤◌}
use native.Mathlib.Nat.{mul-le-mul_left}
use native.Mathlib.Omega.{arith}
use mathlib.Core.List.{List, [], ◌∷◌}
use lib.ListN.{length, length-append, length-map}
use Rattle.records.specs.declared.schema.Signature.{Signature}
use Rattle.records.specs.Layout.{max_classes, max_attributes, max_constants, max_marks, max_objects, max_facts, query_steps}
use Rattle.records.specs.Marks.{allowing, allows}
use Rattle.records.specs.SchemaRecord.{schema_of}
use Rattle.records.proofs.General.BoolLaws.{cond_elim}
use Rattle.chase.specs.Bounds.{most_facts}
use Rattle.chase.specs.Candidate.{objects}
use Rattle.records.specs.Encoding.{name_fact}
use Rattle.chase.specs.Written.{object_facts}
use Rattle.chase.proofs.GatherLaws.{gather_bound}
use Rattle.chase.proofs.RowLaws.{object_facts_few}
use Rattle.primary.specs.Words.{edge_of}
use Rattle.ground.specs.Numbers.{object_in}
use Rattle.ground.specs.Objects.{ground_in, forest_in}
use Rattle.candidate.specs.declared.marks.Shape.{Shape}
use Rattle.candidate.specs.Facts.{name_facts, mark_row, mark_facts, facts_in, all_facts}

pub facts_fit : (w reps edges words : List ℕ) (first g n : ℕ)
    → length (facts_in w reps first edges g n words) + max_marks
    ≤ most_facts (schema_of w).signature (objects (schema_of w) (ground_in g words edges) (forest_in g n words)) (length edges)
facts_fit w reps edges words first g n =
    let S = schema_of w in
    let G = ground_in g words edges in
    let T = forest_in g n words in
    omega (
      arith,
      length-append (object_facts S G T) (name_facts reps first S.signature.constants),
      object_facts_few S G T,
      length-map edges edge_of,
      gather_bound (λ a. name_fact a (object_in reps (first + a)) ∷ []) S.signature.constants 1 (λ a. omega arith),
    )

pub marks_few : (s : Signature) (reps nodes : List ℕ) → length (mark_facts s reps nodes) ≤ max_marks
marks_few s reps nodes =
    omega (
      arith,
      gather_bound (mark_row s reps nodes) max_marks 1
          (λ k. cond_elim {A = List ℕ} (λ l. length l ≤ 1) (allows s k) (λ _. omega arith) (λ _. omega arith)),
    )

pub all_fit : (w reps edges words : List ℕ) (first : ℕ) (z : Shape)
    → length (all_facts w reps first edges words z)
    ≤ most_facts (schema_of w).signature
    (objects (schema_of w) (ground_in z.sizes.ground words edges) (forest_in z.sizes.ground z.sizes.made words)) (length edges)
all_fit w reps edges words first z =
    let s = allowing z.marks.used (schema_of w).signature in
    omega (
      arith,
      length-append (facts_in w reps first edges z.sizes.ground z.sizes.made words) (mark_facts s reps z.marks.nodes),
      facts_fit w reps edges words first z.sizes.ground z.sizes.made,
      marks_few s reps z.marks.nodes,
    )

-- within the limits, part by part
module _ (s : Signature) (objects pairs : ℕ)
    (limits : (s.classes ≤ max_classes) × (s.attributes ≤ max_attributes) × (s.constants ≤ max_constants)
    × (objects ≤ max_objects) × (pairs ≤ query_steps)) where
  pub members_few : s.classes * objects ≤ max_classes * max_objects
  members_few = omega (arith, mul-le-mul_left s.classes limits.3)

  pub values_few : s.attributes * objects ≤ max_attributes * max_objects
  values_few = omega (arith, mul-le-mul_left s.attributes limits.3)

  pub most_fit : most_facts s objects pairs ≤ max_facts
  most_fit = omega (arith, members_few, values_few)
