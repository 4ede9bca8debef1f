-- What a pass over the facts of a kind counts; no promise of an entry needs it.
use Rattle.std.specs.Prelude.{ℕ, ◌≤◌, ◌<◌, List, Bool, ◌&&◌, ◌≡◌, eqb, length, get_or}
use Rattle.records.specs.Finite.{count}
use Rattle.records.specs.Layout.{state_layout, entries, right_at, max_objects, max_facts, fact_kinds}
use Rattle.records.specs.StateRecord.{kind_at, object_at}
use Rattle.index.specs.BitSet.{bit_at}
use Rattle.index.specs.Kinds.{KindsRise}

-- what it asks: the facts of the kind stand in a row, and right words are objects that a record can have
pub record Walkable (w : List ℕ) (k : ℕ) : Type 0 where
  pub rise : KindsRise w
  pub few : entries state_layout w ≤ max_facts
  pub inside : (i : ℕ) → i < entries state_layout w → right_at state_layout w i < max_objects
  pub kind : k < fact_kinds

-- fact i is of kind k, and its object is in the set
abbrev pub link_at : List ℕ → ℕ → List ℕ → ℕ → Bool
link_at w k set i = eqb (kind_at w i) k && bit_at set (object_at w i)

-- a count for each second object, of the first n facts
pub record Tallied (w : List ℕ) (k : ℕ) (set : List ℕ) (n : ℕ) (counts : List ℕ) : Type 0 where
  pub size : length counts ≡ max_objects
  pub each : (e : ℕ) → e < max_objects → get_or counts e 0 ≡ count n λ i. link_at w k set i && eqb (right_at state_layout w i) e
