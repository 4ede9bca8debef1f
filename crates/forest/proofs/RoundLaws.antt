-- The walks from the objects of the ground, one after another. There is room for each, since there is room for all.
use Prim.Native.Nat.{ℕ, zero, suc, ◌+◌, ◌-◌, ◌≤◌, ◌<◌}
use native.Mathlib.Omega.{arith}
use native.Mathlib.Nat.{add-zero, add-suc}
use native.Mathlib.Numerals.{add-one}
use mathlib.Core.List.{List, []}
use mathlib.Core.Path.{◌≡◌, sym, ap, ap₂, subst, ◌∙◌}
use Rattle.records.specs.Concept.{Concept}
use Rattle.records.specs.Layout.{concept_layout, entries, view_steps, max_objects}
use Rattle.records.specs.Schema.{Schema}
use Rattle.records.specs.SchemaRecord.{signature_of, schema_of}
use Rattle.records.specs.ConceptRecord.{concept_of}
use Rattle.records.specs.SchemaRefusal.{AcceptedSchema}
use Rattle.records.specs.ConceptRefusal.{AcceptedConcept}
use Rattle.records.proofs.AcceptedLaws.{passes_5, passes_6, accepted_concept, accepted_limit}
use Rattle.records.specs.Helpers.Loops.{upto}
use Rattle.chase.specs.Ground.{Ground}
use Rattle.records.specs.Helpers.Steps.{concept_steps}
use Rattle.chase.specs.Forest.{Forest, bare, size, walk, walks}
use Rattle.records.specs.Helpers.Reading.{concept_at, HasConcept}
use Rattle.chase.proofs.SizeLaws.{walks_size}
use Rattle.chase.specs.Bounds.{max_nodes, max_forest}
use Rattle.ground.specs.Objects.{forest_in, ground_in}
use Rattle.forest.specs.declared.places.Root.{Root}
use Rattle.forest.specs.declared.places.Here.{Here}
use Rattle.forest.specs.Kept.{Kept, Grows}
use Rattle.forest.specs.Places.{Begins}
use Rattle.forest.specs.Walking.{walked, CanWalk, Walked, Walks}
use Rattle.forest.proofs.ObjectLaws.{forest_none, size_laid}
use Rattle.forest.proofs.GrowLaws.{grows_then, same_size, grows_self}
use Rattle.forest.proofs.WalkLaws.{walk_more}

-- the walks from the first i objects
abbrev pub rounds : Schema → Ground → Concept → ℕ → Forest
rounds S G C i = upto (λ s. walk S G C s []) i bare

rounds_more : (S : Schema) (G : Ground) (C : Concept) (i k : ℕ) → size G (rounds S G C i) ≤ size G (rounds S G C (i + k))
unfolding upto
rounds_more S G C i zero = omega (arith, ap (λ (k : ℕ). size G (rounds S G C k)) (add-zero i))
rounds_more S G C i (suc k) =
    omega (
      arith,
      rounds_more S G C i k,
      walk_more S G C (i + k) [] (rounds S G C (i + k)),
      ap (λ (j : ℕ). size G (rounds S G C j)) (add-suc i k),
    )

module _ (schema view edges objects : List ℕ) (g : ℕ) (legal : AcceptedSchema schema)
    (sound : AcceptedConcept view_steps (signature_of schema) view) (kept : Kept g g objects) (few : g ≤ max_nodes) where
  abbrev S : Schema
  S = schema_of schema

  abbrev G : Ground
  G = ground_in g objects edges

  short : concept_steps (concept_of view) ≤ view_steps
  short =
      accepted_limit view (passes_5 view_steps (signature_of schema) view sound) view_steps (passes_6 view_steps (signature_of schema) view sound)

  all_small : size G (walks S G (concept_of view)) ≤ max_forest
  all_small = omega (arith, walks_size S G (concept_of view) short)

  round_small : (s : ℕ) → s < g → size G (rounds S G (concept_of view) (suc s)) ≤ max_objects
  unfolding walks
  round_small s h =
      let q : suc s + (g - suc s) ≡ g = omega arith in
      omega (
        arith,
        rounds_more S G (concept_of view) (suc s) (g - suc s),
        ap (λ (k : ℕ). size G (rounds S G (concept_of view) k)) q,
        all_small,
      )

  pub rounds_none : Grows g g g objects objects (rounds S G (concept_of view) 0)
  unfolding upto
  rounds_none = grows_self kept (forest_none g g objects (omega (arith, kept.laid.fits, kept.laid.room)))

  abbrev pub from : ℕ → Root
  from s = record { ground = g; start = s }

  -- the walk from s
  module _ {n s end : ℕ} {h : Here} {b : List ℕ} (l : s < g) (x : Grows g g n objects b (rounds S G (concept_of view) s))
      (begins : Begins n h) (e : end ≡ entries concept_layout view) where
    whole : concept_at view end ≡ concept_of view
    unfolding concept_of
    whole = ap (concept_at view) e

    walk_is : walked schema edges b (from s) h (concept_at view end) ≡ walk S (ground_in g b edges) (concept_of view) s [] (forest_in g n b)
    walk_is =
        ap (λ (C : Concept). walked schema edges b (from s) h C) whole
        ∙ ap₂ (λ (m : List ℕ) (k : ℕ). walk S (ground_in g b edges) (concept_of view) s m (forest_in g k b)) begins.list begins.size

    pub round_walk : CanWalk schema view edges b (from s) end h
    unfolding upto
    round_walk =
        record {
          walking =
              record {
                legal = legal;
                sound = sound;
                within = omega arith;
                ready =
                    record {
                      kept = subst (λ (k : ℕ). Kept g k b) (sym begins.size) x.kept;
                      start = omega (arith, x.more, begins.size);
                      stands = begins.stands;
                    };
              };
          item = subst (HasConcept view) (sym e) (accepted_concept view (passes_5 view_steps (signature_of schema) view sound)).0;
          fits =
              omega (
                arith,
                ap (size (ground_in g b edges)) walk_is,
                same_size edges (λ H U. walk S H (concept_of view) s [] U) x,
                round_small s l,
              );
          places = omega (arith, begins.count, ap concept_steps whole, short);
        }

    pub rounds_next : {r : ℕ} {last : List ℕ} → Walked schema view edges b (from s) end h last r
        → Grows g g r objects last (rounds S G (concept_of view) (s + 1))
    unfolding upto
    rounds_next {r} {last} y =
        let z : Grows g n r b last (walk S (ground_in g b edges) (concept_of view) s [] (forest_in g n b))
        = subst (Grows g n r b last) walk_is
        (subst (λ (k : ℕ). Grows g k r b last (walked schema edges b (from s) h (concept_at view end))) begins.size y) in
        rw add-one (grows_then edges (λ H U. walk S H (concept_of view) s [] U) x z)

  pub rounds_all : {n s : ℕ} {b : List ℕ} → s ≤ g → g ≤ s → Grows g g n objects b (rounds S G (concept_of view) s)
      → Walks schema view edges objects g b n
  unfolding walks
  rounds_all {n} {s} {b} a c x =
      let q : s ≡ g = omega arith in
      let all : forest_in g n b ≡ walks S G (concept_of view) = x.value ∙ ap (rounds S G (concept_of view)) q in
      let counted : n ≡ size G (walks S G (concept_of view)) = sym (size_laid g n b x.kept.laid objects edges) ∙ ap (size G) all in
      record { value = all; size = counted; small = omega (arith, counted, all_small); kept = x.kept; ground = x.ground }
