-- Where the walk stands (src/places.rt): the made objects at the present place of the view, and what a step makes of them.
use Rattle.std.specs.Prelude.{ℕ, ◌+◌, ◌≤◌, ◌<◌, List, [], ◌∷◌, ◌++◌, ◌≡◌, length, get_or, take}
use Rattle.records.specs.Concept.{Direction, direction_of}
use Rattle.records.specs.Layout.{view_steps}
use Rattle.records.specs.Schema.{Schema}
use Rattle.records.specs.SchemaRecord.{schema_of}
use Rattle.chase.specs.Ground.{Ground}
use Rattle.chase.specs.Forest.{Forest, push, hop, next, make_for}
use Rattle.ground.specs.Objects.{forest_in, ground_in}
use Rattle.forest.specs.declared.places.Root.{Root}
use Rattle.forest.specs.declared.places.Step.{Step}
use Rattle.forest.specs.declared.places.Here.{Here}
use Rattle.forest.specs.Kept.{Kept}

abbrev pub max_places : ℕ
max_places = view_steps

-- the list of the made objects
abbrev pub standing : Here → List ℕ
standing h = take h.count h.at

-- the objects on the list are there
pub record Stands (h : Here) : Type 0 where
  pub room : length h.at ≡ max_places
  pub few : h.count ≤ max_places
  pub inside : (i : ℕ) → i < h.count → get_or h.at i 0 < h.size

-- the objects, the start and the list are in order
pub record Ready (objects : List ℕ) (root : Root) (h : Here) : Type 0 where
  pub kept : Kept root.ground h.size objects
  pub start : root.start < h.size
  pub stands : Stands h

-- n objects, and none on the list
pub record Begins (n : ℕ) (r : Here) : Type 0 where
  pub list : standing r ≡ []
  pub stands : Stands r
  pub size : r.size ≡ n
  pub count : r.count ≡ 0

-- the object that k stands for, if any, has come to the end of the list
pub record Pushed (h : Here) (k : ℕ) (r : Here) : Type 0 where
  pub list : standing r ≡ standing h ++ push k []
  pub stands : Stands r
  pub size : r.size ≡ h.size
  pub more : r.count ≤ h.count + 1

-- what the model does at a step of the view
abbrev pub heading : Step → Direction
heading step = direction_of step.backward

abbrev pub next_by : Step → Ground → Forest → List ℕ → List ℕ
next_by step G T l = next G T (heading step) step.attribute l

abbrev pub make_by : Step → Schema → Ground → List ℕ → Forest → Forest
make_by step S G l T = make_for S G (heading step) step.attribute l T

-- r is where the step leads from d, if anywhere
pub record Hopped (g n : ℕ) (objects : List ℕ) (step : Step) (d r : ℕ) : Type 0 where
  pub value : (edges : List ℕ) → r ≡ hop (ground_in g objects edges) (forest_in g n objects) (heading step) step.attribute d
  pub inside : r ≤ n

-- r has the list after the step, from the start and from the first i on the list
pub record Follows (root : Root) (objects : List ℕ) (step : Step) (h : Here) (i : ℕ) (r : Here) : Type 0 where
  pub list : (edges : List ℕ)
      → standing r
      ≡ next_by step (ground_in root.ground objects edges) (forest_in root.ground h.size objects) (root.start ∷ take i h.at)
  pub stands : Stands r
  pub size : r.size ≡ h.size
  pub more : r.count ≤ i + 1

-- the values that the start and those on the list lack before a step
abbrev pub made_for : List ℕ → List ℕ → List ℕ → Root → Step → Here → Forest
made_for schema edges objects root step h =
    make_by step (schema_of schema) (ground_in root.ground objects edges) (root.start ∷ standing h)
    (forest_in root.ground h.size objects)
