-- The list of made objects: an object more at its end, and the list after a step, object by object.
use Prim.Native.Nat.{ℕ, zero, suc, ◌+◌, ◌≤◌, ◌<◌}
use native.Mathlib.Omega.{arith}
use native.Mathlib.Decide.{dec_lt, ℕ_discrete}
use native.Mathlib.Numerals.{add-one}
use mathlib.Core.Bool.{Bool, true, false}
use mathlib.Core.List.{List, [], ◌∷◌, ◌++◌, append-nil}
use mathlib.Core.Path.{◌≡◌, refl, sym, ap, ap₂, subst, ◌∙◌}
use lib.Dec.{eqb}
use lib.ListN.{length, get_or, set, take, length-set}
use lib.Seq.{take-suc, take-suc-set, length-take-le, get_or-take, get_or-set_same, get_or-set_other}
use Rattle.records.specs.Concept.{Direction, direction_of}
use Rattle.chase.specs.Ground.{Ground}
use Rattle.chase.specs.Forest.{Forest, kid, parent, push, hop, next}
use Rattle.records.proofs.General.BoolLaws.{cond_elim}
use Rattle.chase.proofs.ForestLaws.{kid_bound}
use Rattle.ground.specs.Objects.{attribute_in, forest_in, ground_in}
use Rattle.forest.specs.declared.places.Root.{Root}
use Rattle.forest.specs.declared.places.Step.{Step}
use Rattle.forest.specs.declared.places.Here.{Here}
use Rattle.forest.specs.Kept.{Kept}
use Rattle.forest.specs.Places.{max_places, standing, Stands, Begins, Pushed, heading, next_by, Hopped, Follows}
use Rattle.forest.proofs.ObjectLaws.{size_laid, parent_made, parent_ground}

-- an object comes to the end of the list, or none
module _ (h : Here) (k : ℕ) (stands : Stands h) where
  pub pushed_none : k ≡ 0 → Pushed h k h
  pushed_none q =
      record {
        list = sym (ap (λ (i : ℕ). standing h ++ push i []) q ∙ append-nil (standing h));
        stands = stands;
        size = refl;
        more = omega arith;
      }

  pub pushed_one : (e : ℕ) → k ≡ e + 1 → h.count < max_places → k ≤ h.size
      → (r : Here) → r.size ≡ h.size → r.count ≡ h.count + 1 → r.at ≡ set h.at h.count e
      → Pushed h k r
  pushed_one e is few inside r s c a =
      let long : h.count < length h.at = omega (arith, stands.room) in
      let q : suc e ≡ k = omega arith in
      record {
        list =
            ap₂ take c a ∙ ap (λ (i : ℕ). take i (set h.at h.count e)) (add-one h.count)
            ∙ take-suc-set h.at h.count e long ∙ ap (λ (i : ℕ). standing h ++ push i []) q;
        stands =
            record {
              room = ap length a ∙ length-set h.at h.count e ∙ stands.room;
              few = omega arith;
              inside = λ i l.
                  subst (λ (m : List ℕ). get_or m i 0 < r.size) (sym a)
                  (elim (ℕ_discrete i h.count) [
                    | yes j ↦
                        subst (λ (j : ℕ). get_or (set h.at h.count e) j 0 < r.size) (sym j)
                        (omega (arith, get_or-set_same h.at h.count e 0 long))
                    | no n ↦
                        omega (arith, get_or-set_other h.at h.count i e 0 n, stands.inside i (omega arith))
                  ]);
            };
        size = s;
        more = omega arith;
      }

-- where a step leads is an object that is there
module _ {g n : ℕ} {objects : List ℕ} (kept : Kept g n objects) (step : Step) (d r : ℕ) (h : d < n) where
  hopped : {b : Bool} → step.backward ≡ b
      → ((edges : List ℕ) → r ≡ hop (ground_in g objects edges) (forest_in g n objects) (direction_of b) step.attribute d)
      → r ≤ n
      → Hopped g n objects step d r
  hopped q k inside =
      record {
        value = λ edges.
            k edges ∙ ap (λ (c : Bool). hop (ground_in g objects edges) (forest_in g n objects) (direction_of c) step.attribute d) (sym q);
        inside = inside;
      }

  pub hopped_ahead : step.backward ≡ false
      → ((edges : List ℕ) → r ≡ kid (ground_in g objects edges) (forest_in g n objects) step.attribute d)
      → Hopped g n objects step d r
  hopped_ahead q k =
      let bound = kid_bound (ground_in g objects []) (forest_in g n objects) step.attribute d in
      hopped q k (omega (arith, k [], bound, size_laid g n objects kept.laid objects []))

  pub hopped_back : step.backward ≡ true
      → ((edges : List ℕ) → r ≡ parent (ground_in g objects edges) (forest_in g n objects) step.attribute d)
      → Hopped g n objects step d r
  hopped_back q k =
      hopped q k
      (elim (dec_lt d g) [
        | yes y ↦ omega (arith, k [], parent_ground (ground_in g objects []) (forest_in g n objects) step.attribute d y)
        | no z ↦
            cond_elim (λ v. r ≡ v → r ≤ n) (eqb (attribute_in (get_or objects d 0)) step.attribute)
            (λ _ e. omega (arith, e, kept.makers d (omega arith) h)) (λ _ e. omega (arith, e))
            (k [] ∙ parent_made g n objects kept.laid objects [] step.attribute d (omega arith) h)
      ])

-- the list after a step, of the first i objects
module _ (G : Ground) (T : Forest) (r : Direction) (P : ℕ) where
  push_append : (k : ℕ) (l m : List ℕ) → push k l ++ m ≡ push k (l ++ m)
  push_append zero l m = refl
  push_append (suc e) l m = refl

  next_append : (l m : List ℕ) → next G T r P (l ++ m) ≡ next G T r P l ++ next G T r P m
  next_append [] m = refl
  next_append (d ∷ l) m =
      ap (push (hop G T r P d)) (next_append l m) ∙ sym (push_append (hop G T r P d) (next G T r P l) (next G T r P m))

  pub next_more : (s : ℕ) (l : List ℕ) (i : ℕ) → i < length l
      → next G T r P (s ∷ take (suc i) l) ≡ next G T r P (s ∷ take i l) ++ push (hop G T r P (get_or l i 0)) []
  next_more s l i h =
      ap (λ (m : List ℕ). next G T r P (s ∷ m)) (take-suc l i 0 h) ∙ next_append (s ∷ take i l) (get_or l i 0 ∷ [])

-- the objects on the list are those that are counted
module _ {h : Here} (stands : Stands h) where
  pub standing_length : length (standing h) ≡ h.count
  standing_length = length-take-le h.count h.at (omega (arith, stands.few, stands.room))

  pub standing_few : {i : ℕ} → i < length (standing h) → i < h.count
  standing_few l = omega (arith, standing_length)

  pub standing_inside : {i d : ℕ} → i < length (standing h) → d ≡ get_or (standing h) i 0 → d < h.size
  standing_inside {i} l e = omega (arith, e, get_or-take h.count h.at i 0 (standing_few l), stands.inside i (standing_few l))

-- .. as the loop makes it
module _ {root : Root} {objects : List ℕ} {step : Step} {h : Here} where
  pub follows_none : {k : ℕ} {b r : Here} → Begins h.size b → Hopped root.ground h.size objects step root.start k
      → Pushed b k r
      → Follows root objects step h 0 r
  follows_none {k} begins hopped pushed =
      record {
        list = λ edges.
            pushed.list ∙ ap (λ (m : List ℕ). m ++ push k []) begins.list ∙ ap (λ (i : ℕ). push i []) (hopped.value edges);
        stands = pushed.stands;
        size = pushed.size ∙ begins.size;
        more = omega (arith, pushed.more, begins.count);
      }

  pub follows_more : {b r : Here} {k d i : ℕ} → Stands h → i < length (standing h) → d ≡ get_or (standing h) i 0 → Follows root objects step h i b
      → Hopped root.ground h.size objects step d k
      → Pushed b k r
      → Follows root objects step h (i + 1) r
  follows_more {i = i} stands l e before hopped pushed =
      let few : i < h.count = standing_few stands l in
      record {
        list = λ edges.
            let G = ground_in root.ground objects edges in
            let T = forest_in root.ground h.size objects in
            pushed.list ∙ ap₂ (λ (m : List ℕ) (j : ℕ). m ++ push j []) (before.list edges) (hopped.value edges)
            ∙ ap (λ (j : ℕ). next_by step G T (root.start ∷ take i h.at) ++ push (hop G T (heading step) step.attribute j) []) (e ∙ get_or-take h.count h.at i 0 few)
            ∙ rw add-one
            (sym (next_more G T (heading step) step.attribute root.start h.at i (omega (arith, stands.few, stands.room))));
        stands = pushed.stands;
        size = pushed.size ∙ before.size;
        more = omega (arith, pushed.more, before.more);
      }

  pub follows_all : {r : Here} {i : ℕ} → Stands h → i ≤ length (standing h) → length (standing h) ≤ i → Follows root objects step h i r
      → Follows root objects step h h.count r
  follows_all {r} {i} stands a b f =
      let q : i ≡ h.count = omega (arith, standing_length stands) in
      subst (λ (j : ℕ). Follows root objects step h j r) q f
