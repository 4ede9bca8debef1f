-- What the array of objects keeps: class sets that fit their words, and makers that came before.
use Rattle.std.specs.Prelude.{ℕ, ◌+◌, ◌≤◌, ◌<◌, ◌^◌, List, ◌≡◌, get_or, take, Option, Some, None}
use Rattle.records.specs.Layout.{max_objects}
use Rattle.chase.specs.Forest.{Forest, size}
use Rattle.ground.specs.Objects.{classes_in, maker_in, forest_in, ground_in, Laid}

-- n objects, the first g of the ground
pub record Kept (g n : ℕ) (objects : List ℕ) : Type 0 where
  pub laid : Laid g n objects
  pub sets : (d : ℕ) → d < n → classes_in (get_or objects d 0) < 2 ^ 32
  pub makers : (e : ℕ) → g ≤ e → e < n → maker_in (get_or objects e 0) < e

-- r objects with the forest T in place of n; those of the ground have stayed
pub record Grows (g n r : ℕ) (before after : List ℕ) (T : Forest) : Type 0 where
  pub value : forest_in g r after ≡ T
  pub kept : Kept g r after
  pub more : n ≤ r
  pub ground : take g after ≡ take g before

-- there is room for the forest T
abbrev pub Fits : ℕ → List ℕ → List ℕ → Forest → Type 0
Fits g objects edges T = size (ground_in g objects edges) T ≤ max_objects

-- the model's number for an object that may not be there: 0 for none, e + 1 for object e
abbrev pub number : Option ℕ → ℕ
number None = 0
number (Some e) = e + 1
