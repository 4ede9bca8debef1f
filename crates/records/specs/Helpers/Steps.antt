-- How many steps a concept and a path have. Steps are numbered in postfix order, as their tokens stand.
use Rattle.std.specs.Prelude.{ℕ, zero, suc, ◌+◌}
use Rattle.records.specs.Concept.{Concept, class, everything, constant, both, reached, common, mark, Path, empty, step}

abbrev mutual
  pub concept_steps : Concept → ℕ
  concept_steps (class A) = zero
  concept_steps everything = zero
  concept_steps (constant a) = zero
  concept_steps (both C D) = concept_steps C + concept_steps D
  concept_steps (reached p) = path_steps p
  concept_steps (common p q) = path_steps p + path_steps q
  concept_steps (mark k) = zero

  pub path_steps : Path → ℕ
  path_steps empty = zero
  path_steps (step p r P C) = suc (path_steps p + concept_steps C)
