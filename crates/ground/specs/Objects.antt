-- The objects in one array, a number for each: its class set, and of a made object the attribute of which it is a value and
-- its maker. The objects of the ground come first, then the made ones.
use Rattle.std.specs.Prelude.{ℕ, ◌+◌, ◌*◌, ◌/◌, ◌%◌, ◌≤◌, List, [], ◌∷◌, map, ◌≡◌, length, take, drop}
use Rattle.records.specs.Layout.{object_part, max_objects}
use Rattle.chase.specs.Ground.{Ground}
use Rattle.chase.specs.Forest.{Forest, bare, grow}
use Rattle.primary.specs.Words.{edge_of}

-- the link of a made object, below link_part
abbrev pub link : ℕ → ℕ → ℕ
link attribute maker = attribute * object_part + maker

abbrev pub link_part : ℕ
link_part = 65_536

-- of an object of the ground: no attribute has this link
abbrev pub no_link : ℕ
no_link = 65_535

abbrev pub object_word : ℕ → ℕ → ℕ
object_word classes link = classes * link_part + link

abbrev pub ground_word : ℕ → ℕ
ground_word classes = object_word classes no_link

abbrev pub classes_in : ℕ → ℕ
classes_in w = w / link_part

abbrev pub attribute_in : ℕ → ℕ
attribute_in w = w % link_part / object_part

abbrev pub maker_in : ℕ → ℕ
maker_in w = w % link_part % object_part

-- the forest after more made objects
unfoldable pub grown_by : Forest → List ℕ → Forest
grown_by T [] = T
grown_by T (w ∷ l) = grown_by (grow T (maker_in w) (attribute_in w) (classes_in w)) l

-- the made part of n objects of which the first g are the ground's
unfoldable pub forest_in : ℕ → ℕ → List ℕ → Forest
forest_in g n objects = grown_by bare (drop g (take n objects))

-- the ground of which the first g objects and the edges are given; its constants, marks and start are of no account
abbrev pub ground_in : ℕ → List ℕ → List ℕ → Ground
ground_in g objects edges =
    record {
      objects = g;
      sets = map classes_in (take g objects);
      edges = map edge_of edges;
      constants = λ a. 0;
      used = 0;
      marks = λ k. 0;
      start = 0;
    }

-- n objects in the array, the first g of the ground
pub record Laid (g n : ℕ) (objects : List ℕ) : Type 0 where
  pub room : length objects ≡ max_objects
  pub ground : g ≤ n
  pub fits : n ≤ max_objects
