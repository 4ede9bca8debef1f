-- The array of objects grows as the model's forest does: by one value, by the values of a list, and never back.
use Prim.Native.Nat.{ℕ, zero, suc, ◌+◌, ◌≤◌, ◌<◌, ◌^◌}
use native.Mathlib.Omega.{arith}
use native.Mathlib.Decide.{ℕ_discrete}
use native.Mathlib.Numerals.{add-one}
use mathlib.Core.Bool.{Bool, true, false, So, cond}
use mathlib.Core.List.{List, [], ◌∷◌}
use mathlib.Core.Path.{◌≡◌, refl, sym, ap, ap₂, subst, ◌∙◌}
use lib.ListN.{length, get_or, set, take, length-set}
use lib.Seq.{get_or-set_same, get_or-set_other, get_or-take, take-set-le, length-take-le, take_all}
use Rattle.records.specs.Concept.{Direction, forward, backward, direction_of}
use Rattle.records.specs.Layout.{max_attributes, max_objects, object_part}
use Rattle.records.specs.Schema.{Schema}
use Rattle.records.specs.SchemaRecord.{schema_of}
use Rattle.chase.specs.Axioms.{collect, needs_by, image}
use Rattle.chase.specs.Ground.{Ground}
use Rattle.records.specs.Helpers.Loops.{each}
use Rattle.chase.specs.Forest.{Forest, grow, size, lacks, sprout, make, make_for}
use Rattle.records.proofs.General.LoopLaws.{each_next}
use Rattle.records.proofs.General.BoolLaws.{cond_elim}
use Rattle.ground.specs.Objects.{link, object_word, classes_in, maker_in, forest_in, ground_in}
use Rattle.forest.specs.declared.make.Need.{Need}
use Rattle.forest.specs.declared.places.Root.{Root}
use Rattle.forest.specs.declared.places.Step.{Step}
use Rattle.forest.specs.declared.places.Here.{Here}
use Rattle.forest.specs.Kept.{Kept, Grows}
use Rattle.forest.specs.Places.{standing, Stands, made_for}
use Rattle.forest.specs.Making.{made_at, made_all, NeedOf, CanMake, CanMakeAll, CanMakeFor}
use Rattle.forest.proofs.ObjectLaws.{ground_kept, size_laid, classes_laid, word_classes, word_maker, forest_grown}

-- one change after another: f is of the ground, which stays, and of the forest
pub grows_then : {g n m r : ℕ} {a b c : List ℕ} {U : Forest} (edges : List ℕ) (f : Ground → Forest → Forest) → Grows g n m a b U
    → Grows g m r b c (f (ground_in g b edges) (forest_in g m b)) → Grows g n r a c (f (ground_in g a edges) U)
grows_then {g} {n} {m} {r} {a} {b} {c} {U} edges f x y =
    record {
      value = y.value ∙ ap₂ f (ground_kept g b a edges x.ground) x.value;
      kept = y.kept;
      more = omega (arith, x.more, y.more);
      ground = y.ground ∙ x.ground;
    }

-- .. so that the size is known too
pub same_size : {g n m : ℕ} {a b : List ℕ} {U : Forest} (edges : List ℕ) (f : Ground → Forest → Forest) → Grows g n m a b U
    → size (ground_in g b edges) (f (ground_in g b edges) (forest_in g m b)) ≡ size (ground_in g a edges) (f (ground_in g a edges) U)
same_size {g} {n} {m} {a} {b} edges f x = ap₂ (λ (H : Ground) (T : Forest). size H (f H T)) (ground_kept g b a edges x.ground) x.value

pub grows_self : {g n : ℕ} {a : List ℕ} {T : Forest} → Kept g n a → forest_in g n a ≡ T → Grows g n n a a T
grows_self k e = record { value = e; kept = k; more = omega arith; ground = refl }

-- one object more
module _ (g n : ℕ) (objects : List ℕ) (kept : Kept g n objects) (room : n < max_objects) (c P d : ℕ) (p : P < max_attributes) (h : d < n)
    (small : c < 2 ^ 32) where
  abbrev w : ℕ
  w = object_word c (link P d)

  thin : d < object_part
  thin = omega (arith, kept.laid.fits)

  long : n < length objects
  long = omega (arith, kept.laid.room)

  -- what holds of the words that were there, and of the new one
  each_word : (X : ℕ → ℕ → Type 0) → ((i : ℕ) → i < n → X i (get_or objects i 0)) → X n w → (i : ℕ) → i < suc n
      → X i (get_or (set objects n w) i 0)
  each_word X old new i k =
      elim (ℕ_discrete i n) [
        | yes e ↦ subst (λ (j : ℕ). X j (get_or (set objects n w) j 0)) (sym e) (subst (X n) (sym (get_or-set_same objects n w 0 long)) new)
        | no e ↦ subst (X i) (sym (get_or-set_other objects n i w 0 e)) (old i (omega arith))
      ]

  kept_more : Kept g (n + 1) (set objects n w)
  kept_more =
      rw add-one
      (record {
        laid =
            record {
              room = length-set objects n w ∙ kept.laid.room;
              ground = omega (arith, kept.laid.ground);
              fits = omega arith;
            };
        sets = each_word (λ i v. classes_in v < 2 ^ 32) (λ i k. kept.sets i k) (omega (arith, word_classes c P d p thin));
        makers = λ i l k.
            each_word (λ i v. g ≤ i → maker_in v < i) (λ i k l. kept.makers i l k) (λ _. omega (arith, word_maker c P d p thin)) i k l;
      })

  pub grows_one : Grows g n (n + 1) objects (set objects n w) (grow (forest_in g n objects) d P c)
  grows_one =
      record {
        value = rw add-one (forest_grown c P d p thin g n objects kept.laid.ground long);
        kept = kept_more;
        more = omega arith;
        ground = take-set-le g objects n w kept.laid.ground;
      }

-- the value of one object
module _ {schema edges objects : List ℕ} {g n : ℕ} {need : Need} {d : ℕ} (can : CanMake schema edges objects g n need d) where
  abbrev Lacking : Bool
  Lacking = lacks (schema_of schema) (ground_in g objects edges) (forest_in g n objects) need.attribute d

  abbrev sprouted : Forest
  sprouted = sprout (schema_of schema) (ground_in g objects edges) need.attribute d (forest_in g n objects)

  made : (b : Bool) → Lacking ≡ b → made_at schema edges objects g n need d ≡ cond b sprouted (forest_in g n objects)
  unfolding make
  made b q = ap (λ (t : Bool). cond t sprouted (forest_in g n objects)) q

  pub make_idle : Lacking ≡ false → Grows g n n objects objects (made_at schema edges objects g n need d)
  make_idle q = grows_self can.kept (sym (made false q))

  pub make_room : So Lacking → n < max_objects
  unfolding size
  make_room q =
      omega (
        arith,
        ap (size (ground_in g objects edges)) (made true q),
        size_laid g n objects can.kept.laid objects edges,
        can.fits,
      )

  pub make_one : So Lacking → (c : ℕ) → c < 2 ^ 32 → c ≡ image (schema_of schema) (classes_in (get_or objects d 0)) need.attribute
      → Grows g n (n + 1) objects (set objects n (object_word c (link need.attribute d))) (made_at schema edges objects g n need d)
  make_one q c small e =
      let k : grow (forest_in g n objects) d need.attribute c ≡ made_at schema edges objects g n need d
      = ap (grow (forest_in g n objects) d need.attribute)
      (e
      ∙ ap (λ (i : ℕ). image (schema_of schema) i need.attribute)
      (sym (classes_laid (schema_of schema) g n objects can.kept.laid edges d can.inside)))
      ∙ sym (made true q) in
      subst (Grows g n (n + 1) objects (set objects n (object_word c (link need.attribute d)))) k
      (grows_one g n objects can.kept (make_room q) c need.attribute d can.known.attribute can.inside small)

-- no value is taken back
module _ (S : Schema) (G : Ground) where
  pub make_more : (P d : ℕ) (T : Forest) → size G T ≤ size G (make S G P d T)
  unfolding make size
  make_more P d T = cond_elim (λ U. size G T ≤ size G U) (lacks S G T P d) (λ _. omega arith) (λ _. omega arith)

  each_more : (P : ℕ) (l : List ℕ) (T : Forest) → size G T ≤ size G (each (make S G P) l T)
  unfolding each
  each_more P [] T = omega arith
  each_more P (d ∷ l) T = omega (arith, make_more P d T, each_more P l (make S G P d T))

  take_more : (P : ℕ) (l : List ℕ) (i : ℕ) (T : Forest) → size G (each (make S G P) (take i l) T) ≤ size G (each (make S G P) l T)
  unfolding each
  take_more P l zero T = each_more P l T
  take_more P [] (suc i) T = omega arith
  take_more P (d ∷ l) (suc i) T = take_more P l i (make S G P d T)

  pub make_for_more : (r : Direction) (P : ℕ) (l : List ℕ) (T : Forest) → size G T ≤ size G (make_for S G r P l T)
  unfolding make_for
  make_for_more forward P l T = each_more P l T
  make_for_more backward P l T = omega arith

-- the values of the first i on a list
module _ (schema edges objects : List ℕ) (g n : ℕ) (need : Need) (l : List ℕ) where
  pub made_none : Kept g n objects → Grows g n n objects objects (made_all schema edges objects g n need (take 0 l))
  unfolding each
  made_none k = grows_self k refl

  pub made_all_lem : {r : ℕ} {after : List ℕ} (i : ℕ) → length l ≤ i
      → Grows g n r objects after (made_all schema edges objects g n need (take i l))
      → Grows g n r objects after (made_all schema edges objects g n need l)
  made_all_lem {r} {after} i k x =
      subst (λ (m : List ℕ). Grows g n r objects after (made_all schema edges objects g n need m)) (take_all i l k) x

  module _ (can : CanMakeAll schema edges objects g n need l) (r i d : ℕ) (after : List ℕ) (k : i < length l) (e : d ≡ get_or l i 0)
      (so : Grows g n r objects after (made_all schema edges objects g n need (take i l))) where
    one_more : make (schema_of schema) (ground_in g objects edges) need.attribute d (made_all schema edges objects g n need (take i l))
        ≡ made_all schema edges objects g n need (take (suc i) l)
    one_more =
        ap (λ (j : ℕ). make (schema_of schema) (ground_in g objects edges) need.attribute j (made_all schema edges objects g n need (take i l))) e
        ∙ sym (each_next (make (schema_of schema) (ground_in g objects edges) need.attribute) l i 0 k (forest_in g n objects))

    pub make_next : CanMake schema edges after g r need d
    make_next =
        record {
          known = can.known;
          kept = so.kept;
          inside = omega (arith, can.inside i k, so.more);
          fits =
              omega (
                arith,
                same_size edges (λ H T. make (schema_of schema) H need.attribute d T) so,
                ap (size (ground_in g objects edges)) one_more,
                take_more (schema_of schema) (ground_in g objects edges) need.attribute l (suc i) (forest_in g n objects),
                can.fits,
              );
        }

    pub made_more : (m : ℕ) (last : List ℕ) → Grows g r m after last (made_at schema edges after g r need d)
        → Grows g n m objects last (made_all schema edges objects g n need (take (i + 1) l))
    made_more m last y =
        rw add-one (subst (Grows g n m objects last) one_more (grows_then edges (λ H T. make (schema_of schema) H need.attribute d T) so y))

pub listed : {h : Here} → Stands h → h.count ≡ length (standing h)
listed {h} stands = sym (length-take-le h.count h.at (omega (arith, stands.few, stands.room)))

-- the values of the start and of those on the list where the walk stands
module _ {schema edges objects : List ℕ} {root : Root} {step : Step} {h : Here} {mask : ℕ} (q : step.backward ≡ false)
    (can : CanMakeFor schema edges objects root step h) (e : mask ≡ collect (schema_of schema) (needs_by step.attribute)) where
  abbrev g : ℕ
  g = root.ground

  abbrev G : Ground
  G = ground_in g objects edges

  abbrev need : Need
  need = record { attribute = step.attribute; mask = mask }

  known : NeedOf schema need
  known = record { legal = can.legal; needing = e; attribute = can.attribute }

  -- first that of the start, then the rest
  abbrev first : Forest
  first = made_at schema edges objects g h.size need root.start

  abbrev rest : Ground → Forest → Forest
  rest H T = each (make (schema_of schema) H step.attribute) (standing h) T

  all_of : made_for schema edges objects root step h ≡ rest G first
  unfolding each make_for
  all_of =
      ap
      (λ (b : Bool). make_for (schema_of schema) G (direction_of b) step.attribute (root.start ∷ standing h) (forest_in g h.size objects))
      q

  all_fit : size G (rest G first) ≤ max_objects
  all_fit = subst (λ (T : Forest). size G T ≤ max_objects) all_of can.fits

  pub make_first : CanMake schema edges objects g h.size need root.start
  make_first =
      record {
        known = known;
        kept = can.ready.kept;
        inside = can.ready.start;
        fits = omega (arith, each_more (schema_of schema) G step.attribute (standing h) first, all_fit);
      }

  module _ (n : ℕ) (after : List ℕ) (so : Grows g h.size n objects after first) where
    pub make_rest : CanMakeAll schema edges after g n need (standing h)
    make_rest =
        let long = listed can.ready.stands in
        record {
          known = known;
          kept = so.kept;
          inside = λ i k.
              omega (arith, get_or-take h.count h.at i 0 (omega (arith, long)), can.ready.stands.inside i (omega (arith, long)), so.more);
          fits = omega (arith, same_size edges rest so, all_fit);
        }

    pub made_for_lem : (r : ℕ) (last : List ℕ) → Grows g n r after last (made_all schema edges after g n need (standing h))
        → Grows g h.size r objects last (made_for schema edges objects root step h)
    made_for_lem r last y = subst (Grows g h.size r objects last) (sym all_of) (grows_then edges rest so y)

-- nothing is made before a backward step
pub made_back : {schema edges objects : List ℕ} {root : Root} {step : Step} {h : Here} → step.backward ≡ true
    → CanMakeFor schema edges objects root step h
    → Grows root.ground h.size h.size objects objects (made_for schema edges objects root step h)
unfolding make_for
made_back {schema} {edges} {objects} {root} {step} {h} q can =
    grows_self can.ready.kept
    (sym
    (ap
    (λ (b : Bool). make_for (schema_of schema) (ground_in root.ground objects edges) (direction_of b) step.attribute (root.start ∷ standing h)
    (forest_in root.ground h.size objects))
    q))
