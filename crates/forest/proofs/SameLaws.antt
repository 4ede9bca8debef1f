-- The made part depends on the objects, the class sets and the edges of the ground alone. So a ground may take the place of
-- another that has the same of these, whatever its constants and its start.
use Prim.Native.Nat.{ℕ, zero, suc}
use mathlib.Core.Bool.{Bool, cond, not, ◌&&◌, ◌||◌}
use mathlib.Core.List.{List, [], ◌∷◌, map}
use mathlib.Core.Path.{◌≡◌, refl, ap, ap₂, ◌∙◌}
use lib.Dec.{eqb, ltb}
use lib.ListN.{get_or, take}
use Rattle.records.specs.Finite.{any}
use Rattle.records.specs.Schema.{Schema}
use Rattle.records.specs.Concept.{Direction, forward, backward, Concept, class, everything, constant, both, reached, common, mark, Path, empty, step}
use Rattle.records.specs.Helpers.Loops.{any_of, each, upto}
use Rattle.chase.specs.ClassSet.{full}
use Rattle.chase.specs.Axioms.{needs, image}
use Rattle.chase.specs.Ground.{Ground}
use Rattle.chase.specs.Forest.{Forest, bare, grow, size, kid, parent, asks, push, hop, next, classes_of, lacks, make, make_for, walk, trek, walks}
use Rattle.chase.specs.Candidate.{links, lacking, objects}
use Rattle.ground.specs.Agrees.{Agrees}
use Rattle.ground.specs.Objects.{classes_in, ground_in}

-- what depends on the number of objects alone
module _ (G H : Ground) (number : G.objects ≡ H.objects) where
  pub size_same : (T : Forest) → size G T ≡ size H T
  unfolding size
  size_same bare = number
  size_same (grow T d P c) = ap suc (size_same T)

  pub kid_same : (T : Forest) (P d : ℕ) → kid G T P d ≡ kid H T P d
  unfolding kid
  kid_same bare P d = refl
  kid_same (grow T m R c) P d = ap₂ (λ (n v : ℕ). cond (eqb m d && eqb R P) (suc n) v) (size_same T) (kid_same T P d)

  parent_same : (T : Forest) (P e : ℕ) → parent G T P e ≡ parent H T P e
  unfolding parent
  parent_same bare P e = refl
  parent_same (grow T m R c) P e = ap₂ (λ (n v : ℕ). cond (eqb e n) (cond (eqb R P) (suc m) zero) v) (size_same T) (parent_same T P e)

  hop_same : (T : Forest) (r : Direction) (P d : ℕ) → hop G T r P d ≡ hop H T r P d
  hop_same T forward P d = kid_same T P d
  hop_same T backward P d = parent_same T P d

  next_same : (T : Forest) (r : Direction) (P : ℕ) (l : List ℕ) → next G T r P l ≡ next H T r P l
  next_same T r P [] = refl
  next_same T r P (d ∷ l) = ap₂ push (hop_same T r P d) (next_same T r P l)

  -- .. and on the class sets
  pub classes_of_same : G.sets ≡ H.sets → (S : Schema) (T : Forest) (d : ℕ) → classes_of S G T d ≡ classes_of S H T d
  unfolding classes_of
  classes_of_same sets S bare d =
      ap₂ (λ (n : ℕ) (l : List ℕ). cond (ltb d n) (get_or l d 0) (full S.signature.classes)) number sets
  classes_of_same sets S (grow T m R c) d = ap₂ (λ (n v : ℕ). cond (eqb d n) c v) (size_same T) (classes_of_same sets S T d)

module _ {G H : Ground} (same : Agrees G H) where
  asks_same : (P d : ℕ) → asks G P d ≡ asks H P d
  unfolding asks
  asks_same P d = ap (any_of (λ e. eqb e.attribute P && eqb e.origin d)) same.edges

  pub links_same : (P d e : ℕ) → links G P d e ≡ links H P d e
  unfolding links
  links_same P d e = ap (any_of (λ f. eqb f.attribute P && eqb f.origin d && eqb f.target e)) same.edges

  module _ (S : Schema) where
    pub lacks_same : (T : Forest) (P d : ℕ) → lacks S G T P d ≡ lacks S H T P d
    unfolding lacks
    lacks_same T P d =
        ap₂ (λ (c v : ℕ). needs S c P && not (asks G P d || ltb 0 v)) (classes_of_same G H same.objects same.sets S T d) (kid_same G H same.objects T P d)
        ∙ ap (λ (b : Bool). needs S (classes_of S H T d) P && not (b || ltb 0 (kid H T P d))) (asks_same P d)

    make_same : (P d : ℕ) (T : Forest) → make S G P d T ≡ make S H P d T
    unfolding make
    make_same P d T = ap₂ (λ (b : Bool) (c : ℕ). cond b (grow T d P (image S c P)) T) (lacks_same T P d) (classes_of_same G H same.objects same.sets S T d)

    make_for_same : (r : Direction) (P : ℕ) (l : List ℕ) (T : Forest) → make_for S G r P l T ≡ make_for S H r P l T
    unfolding make_for
    make_for_same forward P l T = ap (λ (f : ℕ → Forest → Forest). each f l T) (λ i d U. make_same P d U i)
    make_for_same backward P l T = refl

    mutual
      walk_same : (C : Concept) (s : ℕ) (l : List ℕ) (T : Forest) → walk S G C s l T ≡ walk S H C s l T
      walk_same (class A) s l T = refl
      walk_same everything s l T = refl
      walk_same (constant a) s l T = refl
      walk_same (both C D) s l T = walk_same D s l (walk S G C s l T) ∙ ap (walk S H D s l) (walk_same C s l T)
      walk_same (reached p) s l T = ap (λ (x : Forest × List ℕ). x.0) (trek_same p s l T)
      walk_same (common p q) s l T =
          ap (λ (x : Forest × List ℕ). x.0) (trek_same q s l (trek S G p s l T).0)
          ∙ ap (λ (x : Forest × List ℕ). (trek S H q s l x.0).0) (trek_same p s l T)
      walk_same (mark k) s l T = refl

      trek_same : (p : Path) (s : ℕ) (l : List ℕ) (T : Forest) → trek S G p s l T ≡ trek S H p s l T
      trek_same empty s l T = refl
      trek_same (step p r P C) s l T =
          let x = trek S G p s l T in
          let U = make_for S G r P (s ∷ x.1) x.0 in
          ap₂ {C = Forest × List ℕ} (λ (A : Forest) (m : List ℕ). (A, m)) (walk_same C s (next G U r P (s ∷ x.1)) U) refl
          ∙ ap (λ (m : List ℕ). (walk S H C s m U, m)) (next_same G H same.objects U r P (s ∷ x.1))
          ∙ ap (λ (W : Forest). let m = next H W r P (s ∷ x.1) in (walk S H C s m W, m)) (make_for_same r P (s ∷ x.1) x.0)
          ∙ ap
          (λ (y : Forest × List ℕ). let W = make_for S H r P (s ∷ y.1) y.0 in
          let m = next H W r P (s ∷ y.1) in
          (walk S H C s m W, m))
          (trek_same p s l T)

    pub walks_same : (C : Concept) → walks S G C ≡ walks S H C
    unfolding walks
    walks_same C =
        ap₂ (λ (f : ℕ → Forest → Forest) (n : ℕ). upto f n bare) (λ i s T. walk_same C s [] T i) same.objects

    lacking_same : (T : Forest) → lacking S G T ≡ lacking S H T
    unfolding lacking
    lacking_same T = ap₂ any (size_same G H same.objects T) (λ i d. any S.signature.attributes (λ P. lacks_same T P d i))

    pub objects_same : (T : Forest) → objects S G T ≡ objects S H T
    unfolding objects
    objects_same T = ap₂ (λ (b : Bool) (n : ℕ). cond b (suc n) n) (lacking_same T) (size_same G H same.objects T)

-- the ground of the array, where it is another's
module _ (g : ℕ) (objects edges : List ℕ) (G : Ground) (same : Agrees (ground_in g objects edges) G) where
  -- .. also after the made objects have come
  pub same_after : (after : List ℕ) → take g after ≡ take g objects → Agrees (ground_in g after edges) G
  same_after after e =
      record {
        objects = same.objects;
        sets = ap (map classes_in) e ∙ same.sets;
        edges = same.edges;
      }
