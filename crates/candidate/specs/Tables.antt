-- What is looked up of an attribute P.
use Rattle.std.specs.Prelude.{ℕ, ◌<◌, Bool, false, List, Option, None, ◌≡◌, length, get_or}
use Rattle.records.specs.Layout.{max_objects}
use Rattle.records.specs.Schema.{Schema}
use Rattle.chase.specs.Axioms.{collect, needs_by}
use Rattle.chase.specs.Ground.{Ground}
use Rattle.chase.specs.Forest.{Forest, kid, asks}
use Rattle.forest.specs.Kept.{number}
use Rattle.primary.specs.Words.{part}
use Rattle.ground.specs.Objects.{ground_in, forest_in}

-- the values made: at d that of object d
pub record Kids (g n : ℕ) (objects : List ℕ) (P : ℕ) (table : List (Option ℕ)) : Type 0 where
  pub size : length table ≡ max_objects
  pub values : (edges : List ℕ) (d : ℕ) → d < max_objects → number (get_or table d None) ≡ kid (ground_in g objects edges) (forest_in g n objects) P d

-- the objects from which the query has a pair
pub record Origins (edges : List ℕ) (P : ℕ) (table : List Bool) : Type 0 where
  pub size : length table ≡ part
  pub asked : (g : ℕ) (objects : List ℕ) (d : ℕ) → d < part → get_or table d false ≡ asks (ground_in g objects edges) P d

-- of an object d: the classes that need a value, whether the query has a pair, and the value made
pub record LookedUp (S : Schema) (G : Ground) (T : Forest) (P d mask : ℕ) (asked : Bool) (made : Option ℕ) : Type 0 where
  pub needed : mask ≡ collect S (needs_by P)
  pub query : asked ≡ asks G P d
  pub value : number made ≡ kid G T P d
