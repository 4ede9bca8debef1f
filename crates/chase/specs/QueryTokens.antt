-- What the query's tokens ask: of the concept that ends at token e, at node n; of the path that ends there, from node n; and
-- the node at that path's end.
use Rattle.std.specs.Prelude.{ℕ, List}
use Rattle.records.specs.Helpers.Reading.{start_of, concept_at, path_at, step_number}
use Rattle.chase.specs.Facts.{Facts, end_node, concept_facts, path_facts}

module _ (first : ℕ) (w : List ℕ) (e n : ℕ) where
  abbrev pub facts_at : Facts
  facts_at = concept_facts first (concept_at w e) n (step_number w (start_of w e 1))

  abbrev pub path_facts_at : Facts
  path_facts_at = path_facts first (path_at w e) n (step_number w (start_of w e 1))

abbrev pub end_at : List ℕ → ℕ → ℕ → ℕ
end_at w e n = end_node (path_at w e) n (step_number w (start_of w e 1))
