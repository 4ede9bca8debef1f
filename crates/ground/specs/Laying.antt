-- The ground in the array of objects, by the nodes that have been looked at: all of them in the end.
use Rattle.std.specs.Prelude.{ℕ, List, map, ◌≡◌, length, take}
use Rattle.records.specs.Finite.{count}
use Rattle.records.specs.Layout.{max_objects}
use Rattle.chase.specs.Primary.{Prime, set_of}
use Rattle.chase.specs.Ground.{live, listing}
use Rattle.ground.specs.Objects.{ground_word}

-- of the first n nodes of x: g objects
pub record Grounds (x : Prime) (n g : ℕ) (objects : List ℕ) : Type 0 where
  pub number : g ≡ count n (live x)
  pub words : take g objects ≡ map ground_word (listing (live x) (set_of x) n)
  pub room : length objects ≡ max_objects
