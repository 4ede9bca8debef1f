-- What the making of values asks: the objects in order, and room for what is made.
use Rattle.std.specs.Prelude.{ℕ, ◌<◌, List, ◌≡◌, length, get_or}
use Rattle.records.specs.Layout.{max_attributes}
use Rattle.records.specs.SchemaRecord.{schema_of}
use Rattle.records.specs.SchemaRefusal.{AcceptedSchema}
use Rattle.chase.specs.Axioms.{collect, needs_by}
use Rattle.records.specs.Helpers.Loops.{each}
use Rattle.chase.specs.Forest.{Forest, make}
use Rattle.ground.specs.Objects.{forest_in, ground_in}
use Rattle.forest.specs.declared.make.Need.{Need}
use Rattle.forest.specs.declared.places.Root.{Root}
use Rattle.forest.specs.declared.places.Step.{Step}
use Rattle.forest.specs.declared.places.Here.{Here}
use Rattle.forest.specs.Kept.{Kept, Fits}
use Rattle.forest.specs.Places.{Ready, made_for}

-- the value of one object, and those of the objects on a list
abbrev pub made_at : List ℕ → List ℕ → List ℕ → ℕ → ℕ → Need → ℕ → Forest
made_at schema edges objects g n need d =
    make (schema_of schema) (ground_in g objects edges) need.attribute d (forest_in g n objects)

abbrev pub made_all : List ℕ → List ℕ → List ℕ → ℕ → ℕ → Need → List ℕ → Forest
made_all schema edges objects g n need l =
    each (make (schema_of schema) (ground_in g objects edges) need.attribute) l (forest_in g n objects)

-- the need is the schema's
pub record NeedOf (schema : List ℕ) (need : Need) : Type 0 where
  pub legal : AcceptedSchema schema
  pub needing : need.mask ≡ collect (schema_of schema) (needs_by need.attribute)
  pub attribute : need.attribute < max_attributes

pub record CanMake (schema edges objects : List ℕ) (g n : ℕ) (need : Need) (d : ℕ) : Type 0 where
  pub known : NeedOf schema need
  pub kept : Kept g n objects
  pub inside : d < n
  pub fits : Fits g objects edges (made_at schema edges objects g n need d)

pub record CanMakeAll (schema edges objects : List ℕ) (g n : ℕ) (need : Need) (l : List ℕ) : Type 0 where
  pub known : NeedOf schema need
  pub kept : Kept g n objects
  pub inside : (i : ℕ) → i < length l → get_or l i 0 < n
  pub fits : Fits g objects edges (made_all schema edges objects g n need l)

pub record CanMakeFor (schema edges objects : List ℕ) (root : Root) (step : Step) (h : Here) : Type 0 where
  pub legal : AcceptedSchema schema
  pub ready : Ready objects root h
  pub attribute : step.attribute < max_attributes
  pub fits : Fits root.ground objects edges (made_for schema edges objects root step h)
