-- The walk of the view's tokens is the model's walk. For each token: its operands may be walked, since the whole has room
-- and nothing is taken back, and what they leave makes what the whole leaves.
use Prim.Native.Nat.{ℕ, suc, ◌+◌, ◌-◌, ◌≤◌, ◌<◌, ◌^◌}
use native.Mathlib.Omega.{arith}
use mathlib.Core.List.{List, ◌∷◌}
use mathlib.Core.Path.{◌≡◌, refl, sym, ap, ap₂, subst, ◌∙◌}
use lib.ListN.{length}
use Rattle.records.specs.declared.token.Token.TheVariants.{Both, Empty, Reached, Common}
use Rattle.records.specs.Concept.{Concept, class, everything, constant, both, reached, common, mark, Path, empty, step}
use Rattle.records.specs.Layout.{view_steps, max_attributes, max_objects}
use Rattle.records.specs.Schema.{Schema}
use Rattle.records.specs.SchemaRecord.{schema_of}
use Rattle.records.specs.ConceptRecord.{token_at}
use Rattle.records.specs.Helpers.Reading.{step_token, start_of, concept_at, path_at}
use Rattle.records.proofs.PileLaws.{start_le}
use Rattle.records.proofs.ReadingLaws.{Reads, ReadsStep, concept_reads, step_reads, concept_next, path_next, concept_token, path_token}
use Rattle.chase.specs.Ground.{Ground}
use Rattle.records.specs.Helpers.Steps.{concept_steps, path_steps}
use Rattle.chase.specs.Forest.{Forest, size, walk, trek, make_for, next}
use Rattle.chase.proofs.SizeLaws.{trek_size}
use Rattle.ground.specs.Objects.{forest_in, ground_in}
use Rattle.forest.specs.declared.places.Root.{Root}
use Rattle.forest.specs.declared.places.Step.{Step}
use Rattle.forest.specs.declared.places.Here.{Here}
use Rattle.forest.specs.Kept.{Kept, Grows, Fits}
use Rattle.forest.specs.Places.{max_places, standing, Stands, Ready, heading, next_by, make_by, Follows, made_for}
use Rattle.forest.specs.Making.{CanMakeFor}
use Rattle.forest.specs.Walking.{Walking, walked, trekked, CanWalk, CanTrek, Walked, Trekked}
use Rattle.forest.proofs.ObjectLaws.{ground_kept}
use Rattle.forest.proofs.GrowLaws.{grows_then, same_size, grows_self, make_for_more, listed}
use Rattle.forest.proofs.ViewLaws.{view_short, step_attribute, IsLeaf, leaf_walk}

-- nothing is taken back
module _ (S : Schema) (G : Ground) where
  mutual
    pub walk_more : (C : Concept) (s : ℕ) (l : List ℕ) (T : Forest) → size G T ≤ size G (walk S G C s l T)
    walk_more (class A) s l T = omega arith
    walk_more everything s l T = omega arith
    walk_more (constant a) s l T = omega arith
    walk_more (both C D) s l T = omega (arith, walk_more C s l T, walk_more D s l (walk S G C s l T))
    walk_more (reached p) s l T = trek_more p s l T
    walk_more (common p q) s l T = omega (arith, trek_more p s l T, trek_more q s l (trek S G p s l T).0)
    walk_more (mark k) s l T = omega arith

    trek_more : (p : Path) (s : ℕ) (l : List ℕ) (T : Forest) → size G T ≤ size G (trek S G p s l T).0
    trek_more empty s l T = omega arith
    trek_more (step p r P C) s l T =
        let A = (trek S G p s l T).0 in
        let m = (trek S G p s l T).1 in
        let U = make_for S G r P (s ∷ m) A in
        omega (arith, trek_more p s l T, make_for_more S G r P (s ∷ m) A, walk_more C s (next G U r P (s ∷ m)) U)

-- the same list among more objects
abbrev pub grown : Here → ℕ → Here
grown h n = record { size = n; count = h.count; at = h.at }

pub stands_grown : {h : Here} {n : ℕ} → Stands h → h.size ≤ n → Stands (grown h n)
stands_grown s m =
    record { room = s.room; few = s.few; inside = λ i k. omega (arith, s.inside i k) }

-- among the objects after a change, with another list
ready_after : {objects after : List ℕ} {root : Root} {h : Here} {n : ℕ} {T : Forest} → Ready objects root h
    → Grows root.ground h.size n objects after T
    → (q : Here) → q.size ≡ n → Stands q
    → Ready after root q
ready_after {after = after} {root = root} w x q eq stands =
    record {
      kept = subst (λ (k : ℕ). Kept root.ground k after) (sym eq) x.kept;
      start = omega (arith, w.start, x.more);
      stands = stands;
    }

module _ {schema view objects : List ℕ} {root : Root} {h : Here} {e : ℕ} (w : Walking schema view objects root e h) where
  -- at an earlier place
  earlier : (d : ℕ) → d ≤ e → Walking schema view objects root d h
  earlier d l = record { legal = w.legal; sound = w.sound; within = omega (arith, w.within); ready = w.ready }

  later : {n : ℕ} {after : List ℕ} {T : Forest} → Grows root.ground h.size n objects after T
      → (q : Here) → q.size ≡ n → Stands q
      → Walking schema view after root e q
  later x q eq stands =
      record { legal = w.legal; sound = w.sound; within = w.within; ready = ready_after w.ready x q eq stands }

module _ {schema view edges objects : List ℕ} {root : Root} {at : ℕ} {h : Here} (can : CanWalk schema view edges objects root (suc at) h) where
  -- the walk of what the token says
  of : (C : Concept) → concept_at view (suc at) ≡ C
      → (Fits root.ground objects edges (walked schema edges objects root h C)) × (h.count + concept_steps C ≤ view_steps)
  of C q = (
    subst (λ (D : Concept). Fits root.ground objects edges (walked schema edges objects root h D)) q can.fits,
    subst (λ (D : Concept). h.count + concept_steps D ≤ view_steps) q can.places,
  )

  -- both
  module _ (is : token_at view at ≡ Both) where
    reads : Reads view at Both
    reads = concept_reads view at Both can.item is

    pub both_first : CanWalk schema view edges objects root (start_of view at 1) h
    both_first =
        let o = of (both (concept_at view (start_of view at 1)) (concept_at view at)) reads.0 in
        record {
          walking = earlier can.walking (start_of view at 1) (omega (arith, start_le view at 1));
          item = reads.3;
          fits =
              omega (
                arith,
                o.0,
                walk_more (schema_of schema) (ground_in root.ground objects edges) (concept_at view at) root.start (standing h)
                    (walked schema edges objects root h (concept_at view (start_of view at 1))),
              );
          places = omega (arith, o.1);
        }

    module _ {n : ℕ} {after : List ℕ} (x : Walked schema view edges objects root (start_of view at 1) h after n) where
      pub both_last : CanWalk schema view edges after root at (grown h n)
      both_last =
          let o = of (both (concept_at view (start_of view at 1)) (concept_at view at)) reads.0 in
          record {
            walking = earlier (later can.walking x (grown h n) refl (stands_grown can.walking.ready.stands x.more)) at (omega arith);
            item = reads.2;
            fits = omega (arith, o.0, same_size edges (λ H U. walk (schema_of schema) H (concept_at view at) root.start (standing h) U) x);
            places = omega (arith, o.1);
          }

      pub both_walked : {r : ℕ} {last : List ℕ} → Walked schema view edges after root at (grown h n) last r
          → Walked schema view edges objects root (suc at) h last r
      both_walked {r} {last} y =
          subst (λ (C : Concept). Grows root.ground h.size r objects last (walked schema edges objects root h C)) (sym reads.0)
          (grows_then edges (λ H U. walk (schema_of schema) H (concept_at view at) root.start (standing h) U) x y)

  -- reached
  module _ (is : token_at view at ≡ Reached) where
    reads_path : Reads view at Reached
    reads_path = concept_reads view at Reached can.item is

    pub reached_path : CanTrek schema view edges objects root at h
    reached_path =
        let o = of (reached (path_at view at)) reads_path.0 in
        record {
          walking = earlier can.walking at (omega arith);
          item = reads_path.2;
          fits = o.0;
          places = o.1;
        }

    pub reached_walked : {r : Here} {after : List ℕ} → Trekked schema view edges objects root at h after r
        → Walked schema view edges objects root (suc at) h after r.size
    reached_walked {r} {after} y =
        subst (λ (C : Concept). Grows root.ground h.size r.size objects after (walked schema edges objects root h C)) (sym reads_path.0)
        y.grows

  -- a common object
  module _ (is : token_at view at ≡ Common) where
    reads_paths : Reads view at Common
    reads_paths = concept_reads view at Common can.item is

    pub common_first : CanTrek schema view edges objects root (start_of view at 1) h
    common_first =
        let o = of (common (path_at view (start_of view at 1)) (path_at view at)) reads_paths.0 in
        record {
          walking = earlier can.walking (start_of view at 1) (omega (arith, start_le view at 1));
          item = reads_paths.3;
          fits =
              omega (
                arith,
                o.0,
                trek_more (schema_of schema) (ground_in root.ground objects edges) (path_at view at) root.start (standing h)
                    (trekked schema edges objects root h (path_at view (start_of view at 1))).0,
              );
          places = omega (arith, o.1);
        }

    module _ {q : Here} {after : List ℕ} (x : Trekked schema view edges objects root (start_of view at 1) h after q) where
      pub common_last : CanTrek schema view edges after root at (grown h q.size)
      common_last =
          let o = of (common (path_at view (start_of view at 1)) (path_at view at)) reads_paths.0 in
          record {
            walking =
                earlier (later can.walking x.grows (grown h q.size) refl (stands_grown can.walking.ready.stands x.grows.more))
                at (omega arith);
            item = reads_paths.2;
            fits = omega (arith, o.0, same_size edges (λ H U. (trek (schema_of schema) H (path_at view at) root.start (standing h) U).0) x.grows);
            places = omega (arith, o.1);
          }

      pub common_walked : {r : Here} {last : List ℕ} → Trekked schema view edges after root at (grown h q.size) last r
          → Walked schema view edges objects root (suc at) h last r.size
      common_walked {r} {last} y =
          subst (λ (C : Concept). Grows root.ground h.size r.size objects last (walked schema edges objects root h C)) (sym reads_paths.0)
          (grows_then edges (λ H U. (trek (schema_of schema) H (path_at view at) root.start (standing h) U).0) x.grows y.grows)

-- A step: the path before it, the values that it asks for, the list after it, and the concept on which it lands.
module _ {schema view edges objects : List ℕ} {root : Root} {h : Here} (step : Step)
    (can : CanTrek schema view edges objects root (suc step.at) h)
    (is : token_at view step.at ≡ step_token (heading step) step.attribute) where
  abbrev S : Schema
  S = schema_of schema

  abbrev at : ℕ
  at = step.at

  abbrev g : ℕ
  g = root.ground

  abbrev s : ℕ
  s = root.start

  abbrev G : Ground
  G = ground_in g objects edges

  reads_step : ReadsStep view at (heading step) step.attribute
  reads_step = step_reads view at (heading step) step.attribute can.item is

  abbrev first : Path
  first = path_at view (start_of view at 1)

  abbrev landing : Concept
  landing = concept_at view at

  abbrev before : Forest × List ℕ
  before = trekked schema edges objects root h first

  -- the model's forest with the values made, and its list after the step
  abbrev valued : Forest
  valued = make_by step S G (s ∷ before.1) before.0

  abbrev landed : List ℕ
  landed = next_by step G valued (s ∷ before.1)

  step_is : trekked schema edges objects root h (path_at view (suc at)) ≡ (walk S G landing s landed valued, landed)
  step_is = ap (trekked schema edges objects root h) reads_step.0

  fits : size G (walk S G landing s landed valued) ≤ max_objects
  fits = subst (λ (x : Forest × List ℕ). size G x.0 ≤ max_objects) step_is can.fits

  fits_valued : size G valued ≤ max_objects
  fits_valued = omega (arith, fits, walk_more S G landing s landed valued)

  places : h.count + suc (path_steps first + concept_steps landing) ≤ view_steps
  places = subst (λ (p : Path). h.count + path_steps p ≤ view_steps) reads_step.0 can.places

  pub step_path : CanTrek schema view edges objects root (start_of view at 1) h
  step_path =
      record {
        walking = earlier can.walking (start_of view at 1) (omega (arith, start_le view at 1));
        item = reads_step.3;
        fits = omega (arith, fits_valued, make_for_more S G (heading step) step.attribute (s ∷ before.1) before.0);
        places = omega (arith, places);
      }

  attribute : step.attribute < max_attributes
  attribute =
      step_attribute schema view can.walking.sound can.walking.legal at step.attribute step.backward
      (omega (arith, can.walking.within)) is

  -- after the path
  module _ {q : Here} {a : List ℕ} (x : Trekked schema view edges objects root (start_of view at 1) h a q) where
    -- its list is short
    short : q.count ≤ h.count + path_steps first
    short =
        omega (
          arith,
          listed x.stands,
          ap length x.list,
          listed can.walking.ready.stands,
          (trek_size S G first s (standing h) (forest_in g h.size objects) h.count
              (omega (arith, listed can.walking.ready.stands))).1,
        )

    pub step_make : CanMakeFor schema edges a root step q
    step_make =
        record {
          legal = can.walking.legal;
          ready = ready_after can.walking.ready x.grows q refl x.stands;
          attribute = attribute;
          fits =
              omega (
                arith,
                fits_valued,
                same_size edges (λ H U. make_by step S H (s ∷ standing q) U) x.grows,
                ap (λ (l : List ℕ). size G (make_by step S G (s ∷ l) before.0)) x.list,
              );
        }

    -- after the values were made
    module _ {n : ℕ} {b : List ℕ} (made : Grows g q.size n a b (made_for schema edges a root step q)) where
      sofar : Grows g h.size n objects b valued
      sofar =
          subst (λ (l : List ℕ). Grows g h.size n objects b (make_by step S G (s ∷ l) before.0)) x.list
          (grows_then edges (λ H U. make_by step S H (s ∷ standing q) U) x.grows made)

      pub step_next : Ready b root (grown q n) × (step.attribute < max_attributes) × (q.count < max_places)
      step_next = (
        ready_after can.walking.ready sofar (grown q n) refl (stands_grown x.stands made.more),
        attribute,
        omega (arith, short, places),
      )

      -- after the list was made
      module _ {w : Here} (f : Follows root b step (grown q n) q.count w) where
        list_is : standing w ≡ landed
        list_is =
            f.list edges
            ∙ ap₂ (λ (H : Ground) (U : Forest). next_by step H U (s ∷ standing q))
            (ground_kept g b objects edges sofar.ground) sofar.value
            ∙ ap (λ (l : List ℕ). next_by step G valued (s ∷ l)) x.list

        landing_is : walked schema edges b root w landing ≡ walk S (ground_in g b edges) landing s landed (forest_in g n b)
        landing_is =
            ap₂ (λ (l : List ℕ) (k : ℕ). walk S (ground_in g b edges) landing s l (forest_in g k b)) list_is f.size

        pub step_walk : CanWalk schema view edges b root at w
        step_walk =
            record {
              walking = earlier (later can.walking sofar w f.size f.stands) at (omega arith);
              item = reads_step.2;
              fits =
                  omega (
                    arith,
                    ap (size (ground_in g b edges)) landing_is,
                    same_size edges (λ H U. walk S H landing s landed U) sofar,
                    fits,
                  );
              places = omega (arith, f.more, short, places);
            }

        pub step_trekked : {r : ℕ} {last : List ℕ} → Walked schema view edges b root at w last r
            → Trekked schema view edges objects root (suc at) h last (grown w r)
        step_trekked {r} {last} y =
            let z : Grows g n r b last (walk S (ground_in g b edges) landing s landed (forest_in g n b))
            = subst (Grows g n r b last) landing_is (subst (λ (k : ℕ). Grows g k r b last (walked schema edges b root w landing)) f.size y) in
            record {
              grows =
                  subst (λ (t : Forest × List ℕ). Grows g h.size r objects last t.0) (sym step_is)
                  (grows_then edges (λ H U. walk S H landing s landed U) sofar z);
              list = list_is ∙ sym (ap (λ (t : Forest × List ℕ). t.1) step_is);
              stands = stands_grown f.stands y.more;
            }

-- The token before the end of an item.
module _ {schema view edges objects : List ℕ} {root : Root} {e : ℕ} {h : Here} where
  module _ (can : CanWalk schema view edges objects root e h) where
    pub walk_after : e ≡ suc (e - 1)
    walk_after = concept_next view e can.item

    pub walk_short : e < 2 ^ 16
    walk_short = view_short schema view can.walking.sound e can.walking.within

    pub walk_from : CanWalk schema view edges objects root (suc (e - 1)) h
    walk_from = subst (λ (d : ℕ). CanWalk schema view edges objects root d h) walk_after can

    pub walk_to : {r : ℕ} {after : List ℕ} → Walked schema view edges objects root (suc (e - 1)) h after r
        → Walked schema view edges objects root e h after r
    walk_to {r} {after} y = subst (λ (d : ℕ). Walked schema view edges objects root d h after r) (sym walk_after) y

    pub walk_leaf : IsLeaf (token_at view (e - 1)) → Walked schema view edges objects root e h objects h.size
    walk_leaf k =
        walk_to
        (grows_self can.walking.ready.kept
        (sym
        (leaf_walk (schema_of schema) (ground_in root.ground objects edges) view (e - 1) root.start (standing h)
        (forest_in root.ground h.size objects)
        (token_at view (e - 1)) k (concept_token view e can.item refl))))

  module _ (can : CanTrek schema view edges objects root e h) where
    pub trek_after : e ≡ suc (e - 1)
    trek_after = path_next view e can.item

    pub trek_short : e < 2 ^ 16
    trek_short = view_short schema view can.walking.sound e can.walking.within

    pub trek_from : CanTrek schema view edges objects root (suc (e - 1)) h
    trek_from = subst (λ (d : ℕ). CanTrek schema view edges objects root d h) trek_after can

    pub trek_to : {r : Here} {after : List ℕ} → Trekked schema view edges objects root (suc (e - 1)) h after r
        → Trekked schema view edges objects root e h after r
    trek_to {r} {after} y = subst (λ (d : ℕ). Trekked schema view edges objects root d h after r) (sym trek_after) y

    pub trek_leaf : token_at view (e - 1) ≡ Empty → Trekked schema view edges objects root e h objects h
    trek_leaf is =
        let q : trekked schema edges objects root h (path_at view (suc (e - 1))) ≡ trekked schema edges objects root h empty
        = ap (trekked schema edges objects root h) (path_token view e can.item is).0 in
        trek_to
        (record {
          grows = grows_self can.walking.ready.kept (sym (ap (λ (x : Forest × List ℕ). x.0) q));
          list = sym (ap (λ (x : Forest × List ℕ). x.1) q);
          stands = can.walking.ready.stands;
        })
