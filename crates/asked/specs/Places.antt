-- A place of the query's record at which an item ends: what reading it asks, and what it adds.
use Rattle.std.specs.Prelude.{ℕ, ◌+◌, ◌≤◌, ◌<◌, List, ◌≡◌, length}
use Rattle.records.specs.Layout.{concept_layout, entries, max_tokens, query_steps}
use Rattle.records.specs.ConceptRecord.{token_at}
use Rattle.records.specs.ConceptRefusal.{steps}
use Rattle.records.specs.Helpers.InRange.{TokenInRange}
use Rattle.records.specs.Helpers.Reading.{start_of}
use Rattle.chase.specs.QueryTokens.{facts_at, path_facts_at}
use Rattle.asked.specs.declared.words.Kind.{Kind}
use Rattle.asked.specs.declared.words.Words.{Words}
use Rattle.asked.specs.Listed.{Grown}

-- the limits that an accepted query keeps
pub record Limits (w : List ℕ) : Type 0 where
  pub few : entries concept_layout w ≤ max_tokens
  pub steps : steps w ≤ query_steps
  pub named : (i : ℕ) → i < entries concept_layout w → TokenInRange (token_at w i)

-- an item ends at e; the list has room for a word a token
pub record Place (w : List ℕ) (first e n : ℕ) (x : Words) : Type 0 where
  pub limits : Limits w
  pub within : e ≤ entries concept_layout w
  pub node : n ≤ query_steps
  pub constants : first ≤ query_steps + 1
  pub room : x.count + e ≤ max_tokens
  pub size : length x.words ≡ max_tokens

-- the facts of the concept, or of the path, that ends at e are added
module _ (first : ℕ) (w : List ℕ) (e n : ℕ) (k : Kind) (x y : Words) where
  abbrev pub ConceptGrown : Type 0
  ConceptGrown = Grown k (facts_at first w e n) (start_of w e 1) e x y

  abbrev pub PathGrown : Type 0
  PathGrown = Grown k (path_facts_at first w e n) (start_of w e 1) e x y
