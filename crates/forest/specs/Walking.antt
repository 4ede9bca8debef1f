-- What the walk of the view asks and promises: of the concept, or of the path, that ends at token e.
use Rattle.std.specs.Prelude.{ℕ, ◌+◌, ◌≤◌, List, ◌≡◌, take}
use Rattle.records.specs.Concept.{Concept, Path}
use Rattle.records.specs.Layout.{concept_layout, entries, view_steps}
use Rattle.records.specs.SchemaRecord.{signature_of, schema_of}
use Rattle.records.specs.ConceptRecord.{concept_of}
use Rattle.records.specs.SchemaRefusal.{AcceptedSchema}
use Rattle.records.specs.ConceptRefusal.{AcceptedConcept}
use Rattle.records.specs.Helpers.Steps.{concept_steps, path_steps}
use Rattle.records.specs.Helpers.Reading.{concept_at, path_at, HasConcept, HasPath}
use Rattle.chase.specs.Forest.{Forest, size, walk, trek, walks}
use Rattle.chase.specs.Bounds.{max_forest}
use Rattle.ground.specs.Objects.{forest_in, ground_in}
use Rattle.forest.specs.declared.places.Root.{Root}
use Rattle.forest.specs.declared.places.Here.{Here}
use Rattle.forest.specs.Kept.{Kept, Grows, Fits}
use Rattle.forest.specs.Places.{standing, Stands, Ready}

-- the records, the objects and the list are in order, and e is a place of the view
pub record Walking (schema view objects : List ℕ) (root : Root) (e : ℕ) (h : Here) : Type 0 where
  pub legal : AcceptedSchema schema
  pub sound : AcceptedConcept view_steps (signature_of schema) view
  pub within : e ≤ entries concept_layout view
  pub ready : Ready objects root h

-- the model's walk from the start
module _ (schema edges objects : List ℕ) (root : Root) (h : Here) where
  abbrev pub walked : Concept → Forest
  walked C =
      walk (schema_of schema) (ground_in root.ground objects edges) C root.start (standing h)
      (forest_in root.ground h.size objects)

  abbrev pub trekked : Path → Forest × List ℕ
  trekked p =
      trek (schema_of schema) (ground_in root.ground objects edges) p root.start (standing h)
      (forest_in root.ground h.size objects)

-- there is room for what it makes
pub record CanWalk (schema view edges objects : List ℕ) (root : Root) (e : ℕ) (h : Here) : Type 0 where
  pub walking : Walking schema view objects root e h
  pub item : HasConcept view e
  pub fits : Fits root.ground objects edges (walked schema edges objects root h (concept_at view e))
  pub places : h.count + concept_steps (concept_at view e) ≤ view_steps

pub record CanTrek (schema view edges objects : List ℕ) (root : Root) (e : ℕ) (h : Here) : Type 0 where
  pub walking : Walking schema view objects root e h
  pub item : HasPath view e
  pub fits : Fits root.ground objects edges (trekked schema edges objects root h (path_at view e)).0
  pub places : h.count + path_steps (path_at view e) ≤ view_steps

-- what it leaves
abbrev pub Walked : List ℕ → List ℕ → List ℕ → List ℕ → Root → ℕ → Here → List ℕ → ℕ → Type 0
Walked schema view edges objects root e h after r =
    Grows root.ground h.size r objects after (walked schema edges objects root h (concept_at view e))

pub record Trekked (schema view edges objects : List ℕ) (root : Root) (e : ℕ) (h : Here) (after : List ℕ) (r : Here) : Type 0 where
  pub grows : Grows root.ground h.size r.size objects after (trekked schema edges objects root h (path_at view e)).0
  pub list : standing r ≡ (trekked schema edges objects root h (path_at view e)).1
  pub stands : Stands r

-- the walks from all objects of the ground
pub record Walks (schema view edges objects : List ℕ) (g : ℕ) (after : List ℕ) (r : ℕ) : Type 0 where
  pub value : forest_in g r after ≡ walks (schema_of schema) (ground_in g objects edges) (concept_of view)
  pub size : r ≡ size (ground_in g objects edges) (walks (schema_of schema) (ground_in g objects edges) (concept_of view))
  pub small : r ≤ max_forest
  pub kept : Kept g r after
  pub ground : take g after ≡ take g objects
