-- The walk covers the view: after it, every object on its lists lacks nothing that a step of the view asks of it (Cov).
-- What was ready is never made again, so coverage outlasts all later growth, and the walks from all objects of the ground
-- together cover the view at each of them.
use Prim.Native.Nat.{ℕ, zero, suc, ◌≤◌, ◌<◌}
use native.Mathlib.Omega.{arith}
use mathlib.Core.Bool.{false}
use mathlib.Core.Path.{◌≡◌, refl, sym, ap, ap₂, subst, ◌∙◌}
use mathlib.Core.List.{List, [], ◌∷◌}
use Rattle.records.specs.Schema.{Schema}
use Rattle.records.specs.Concept.{Direction, forward, backward, Concept, class, everything, constant, both, reached, common, mark, Path, empty, step}
use Rattle.records.specs.Helpers.Loops.{each, upto}
use Rattle.chase.specs.Ground.{Ground}
use Rattle.chase.specs.Forest.{Forest, bare, size, hop, push, next, lacks, sprout, make, make_for, walk, trek, walks}
use Rattle.records.proofs.General.CountLaws.{up_to}
use Rattle.records.proofs.General.BoolLaws.{cond_elim}
use Rattle.records.proofs.General.AllLaws.{All, all_map}
use Rattle.chase.proofs.ForestLaws.{Grown, same, more, grown_trans, grown_size, grown_parent, grown_kid, grown_lacks, kid_lacks, kid_new, kid_inside, parent_kid}

pub push_all : (X : ℕ → Type 0) (k : ℕ) (l : List ℕ) → ((e : ℕ) → k ≡ suc e → X e) → All X l → All X (push k l)
push_all X zero l h rest = rest
push_all X (suc e) l h rest = (h e refl, rest)

module _ (S : Schema) (G : Ground) where
  -- a step from d finds in T all that it ever will
  abbrev pub Ready : Forest → Direction → ℕ → ℕ → Type 0
  Ready T forward P d = (d < size G T) × (lacks S G T P d ≡ false)
  Ready T backward P d = d < size G T

  pub ready_inside : (T : Forest) (r : Direction) (P d : ℕ) → Ready T r P d → d < size G T
  ready_inside T forward P d h = h.0
  ready_inside T backward P d h = h

  ready_grown : {T U : Forest} → Grown S G T U → (r : Direction) (P d : ℕ) → Ready T r P d → Ready U r P d
  ready_grown g forward P d h = (omega (arith, h.0, grown_size S G g), grown_lacks S G g P d h.0 h.1)
  ready_grown g backward P d h = omega (arith, grown_size S G g)

  hop_stable : {T U : Forest} → Grown S G T U → (r : Direction) (P d : ℕ) → Ready T r P d → hop G U r P d ≡ hop G T r P d
  hop_stable g forward P d h = grown_kid S G g P d h.0 h.1
  hop_stable g backward P d h = grown_parent S G g P d h

  next_stable : {T U : Forest} → Grown S G T U → (r : Direction) (P : ℕ) (l : List ℕ) → All (Ready T r P) l
      → next G U r P l ≡ next G T r P l
  next_stable g r P [] h = refl
  next_stable g r P (d ∷ l) h = ap₂ push (hop_stable g r P d h.0) (next_stable g r P l h.1)

  make_grows : (P d : ℕ) (T : Forest) → d < size G T → Grown S G T (make S G P d T) × (lacks S G (make S G P d T) P d ≡ false)
  unfolding make
  make_grows P d T h =
      cond_elim (λ U. Grown S G T U × (lacks S G U P d ≡ false)) (lacks S G T P d)
      (λ b. (more d P same h b, kid_lacks S G (sprout S G P d T) P d (size G T) (kid_new S G T d P _))) (λ b. (same, b))

  make_for_ready : (r : Direction) (P : ℕ) (l : List ℕ) (T : Forest) → All (λ d. d < size G T) l
      → Grown S G T (make_for S G r P l T) × All (Ready (make_for S G r P l T) r P) l
  unfolding make_for each
  make_for_ready forward P [] T h = (same, tt)
  make_for_ready forward P (d ∷ l) T h =
      let m = make_grows P d T h.0 in
      let U = make S G P d T in
      let rest = make_for_ready forward P l U (all_map (λ e k. omega (arith, grown_size S G m.0)) l h.1) in (
        grown_trans S G m.0 rest.0,
        (ready_grown rest.0 forward P d (omega (arith, h.0, grown_size S G m.0), m.1), rest.1),
      )
  make_for_ready backward P l T h = (same, h)

  pub hop_inside : {T : Forest} → Grown S G bare T → (r : Direction) (P d e : ℕ) → d < size G T → hop G T r P d ≡ suc e → e < size G T
  hop_inside g forward P d e h q = (kid_inside S G g P d e q).1
  hop_inside g backward P d e h q = omega (arith, (parent_kid S G g P d e h q).0)

  next_inside : {T : Forest} → Grown S G bare T → (r : Direction) (P : ℕ) (l : List ℕ) → All (λ d. d < size G T) l
      → All (λ d. d < size G T) (next G T r P l)
  next_inside g r P [] h = tt
  next_inside {T} g r P (d ∷ l) h =
      push_all (λ e. e < size G T) (hop G T r P d) (next G T r P l) (λ e q. hop_inside g r P d e h.0 q) (next_inside g r P l h.1)

  -- the made objects at the end of a path, on a forest that grows no more
  abbrev pub along : Forest → Path → ℕ → List ℕ → List ℕ
  along T empty s l = l
  along T (step p r P C) s l = next G T r P (s ∷ along T p s l)

  -- all on the lists of the walk from s are ready
  module _ (T : Forest) where
    abbrev mutual
      pub Cov : Concept → ℕ → List ℕ → Type 0
      Cov (class A) s l = Unit {0}
      Cov everything s l = Unit {0}
      Cov (constant a) s l = Unit {0}
      Cov (both C D) s l = Cov C s l × Cov D s l
      Cov (reached p) s l = CovPath p s l
      Cov (common p q) s l = CovPath p s l × CovPath q s l
      Cov (mark k) s l = Unit {0}

      pub CovPath : Path → ℕ → List ℕ → Type 0
      CovPath empty s l = Unit {0}
      CovPath (step p r P C) s l =
          CovPath p s l × All (Ready T r P) (s ∷ along T p s l) × Cov C s (next G T r P (s ∷ along T p s l))

  -- coverage is kept by growth
  module _ {T U : Forest} (g : Grown S G T U) where
    mutual
      cov_grown : (C : Concept) (s : ℕ) (l : List ℕ) → Cov T C s l → Cov U C s l
      cov_grown (class A) s l c = tt
      cov_grown everything s l c = tt
      cov_grown (constant a) s l c = tt
      cov_grown (both C D) s l c = (cov_grown C s l c.0, cov_grown D s l c.1)
      cov_grown (reached p) s l c = (path_grown p s l c).0
      cov_grown (common p q) s l c = ((path_grown p s l c.0).0, (path_grown q s l c.1).0)
      cov_grown (mark k) s l c = tt

      path_grown : (p : Path) (s : ℕ) (l : List ℕ) → CovPath T p s l → CovPath U p s l × (along U p s l ≡ along T p s l)
      path_grown empty s l c = (tt, refl)
      path_grown (step p r P C) s l c =
          let k = path_grown p s l c.0 in
          let e : next G U r P (s ∷ along U p s l) ≡ next G T r P (s ∷ along T p s l)
          = ap (λ (m : List ℕ). next G U r P (s ∷ m)) k.1 ∙ next_stable g r P (s ∷ along T p s l) c.1 in (
            (
              k.0,
              subst (λ (m : List ℕ). All (Ready U r P) (s ∷ m)) (sym k.1) (all_map (ready_grown g r P) (s ∷ along T p s l) c.1),
              subst (Cov U C s) (sym e) (cov_grown C s (next G T r P (s ∷ along T p s l)) c.2),
            ),
            e,
          )

  -- what a walk from T to U brings about, and what a path's walk, with its list
  abbrev Walked : Concept → ℕ → List ℕ → Forest → Forest → Type 0
  Walked C s l T U = Grown S G T U × Cov U C s l

  abbrev Trekked : Path → ℕ → List ℕ → Forest → Forest → List ℕ → Type 0
  Trekked p s l T U m = Grown S G T U × CovPath U p s l × (m ≡ along U p s l) × All (λ d. d < size G U) m

  inside_grown : {T U : Forest} → Grown S G T U → (l : List ℕ) → All (λ d. d < size G T) l → All (λ d. d < size G U) l
  inside_grown g l h = all_map (λ d k. omega (arith, grown_size S G g)) l h

  -- a step after a path: from A, where the path ends at the objects m, to U with the values made, to X with the concept walked
  step_covers : (p : Path) (r : Direction) (P : ℕ) (C : Concept) (s : ℕ) (l m : List ℕ) {T A U X : Forest} → Trekked p s l T A m
      → Grown S G A U
      → All (Ready U r P) (s ∷ m) → All (λ d. d < size G U) (next G U r P (s ∷ m)) → Walked C s (next G U r P (s ∷ m)) U X
      → Trekked (step p r P C) s l T X (next G U r P (s ∷ m))
  step_covers p r P C s l m {T} {A} {U} {X} w g ready inside c =
      let k = path_grown (grown_trans S G g c.0) p s l w.1 in
      let e : m ≡ along X p s l = w.2 ∙ sym k.1 in
      let f : next G U r P (s ∷ m) ≡ next G X r P (s ∷ along X p s l)
      = sym (next_stable c.0 r P (s ∷ m) ready) ∙ ap (λ (n : List ℕ). next G X r P (s ∷ n)) e in (
        grown_trans S G w.0 (grown_trans S G g c.0),
        (
          k.0,
          subst (λ (n : List ℕ). All (Ready X r P) (s ∷ n)) e (all_map (ready_grown c.0 r P) (s ∷ m) ready),
          subst (Cov X C s) f c.1,
        ),
        f,
        inside_grown c.0 (next G U r P (s ∷ m)) inside,
      )

  mutual
    pub walk_covers : (C : Concept) (s : ℕ) (l : List ℕ) (T : Forest) → Grown S G bare T → s < size G T → All (λ d. d < size G T) l
        → Walked C s l T (walk S G C s l T)
    walk_covers (class A) s l T valid hs hl = (same, tt)
    walk_covers everything s l T valid hs hl = (same, tt)
    walk_covers (constant a) s l T valid hs hl = (same, tt)
    walk_covers (both C D) s l T valid hs hl =
        let c = walk_covers C s l T valid hs hl in
        let d = walk_covers D s l (walk S G C s l T) (grown_trans S G valid c.0) (omega (arith, grown_size S G c.0))
        (inside_grown c.0 l hl) in
        (grown_trans S G c.0 d.0, (cov_grown d.0 C s l c.1, d.1))
    walk_covers (reached p) s l T valid hs hl = let k = trek_covers p s l T valid hs hl in (k.0, k.1)
    walk_covers (common p q) s l T valid hs hl =
        let c = trek_covers p s l T valid hs hl in
        let d = trek_covers q s l (trek S G p s l T).0 (grown_trans S G valid c.0) (omega (arith, grown_size S G c.0))
        (inside_grown c.0 l hl) in
        (grown_trans S G c.0 d.0, ((path_grown d.0 p s l c.1).0, d.1))
    walk_covers (mark k) s l T valid hs hl = (same, tt)

    trek_covers : (p : Path) (s : ℕ) (l : List ℕ) (T : Forest) → Grown S G bare T → s < size G T → All (λ d. d < size G T) l
        → Trekked p s l T (trek S G p s l T).0 (trek S G p s l T).1
    trek_covers empty s l T valid hs hl = (same, tt, refl, hl)
    trek_covers (step p r P C) s l T valid hs hl =
        let A = (trek S G p s l T).0 in
        let m = (trek S G p s l T).1 in
        let U = make_for S G r P (s ∷ m) A in
        let w = trek_covers p s l T valid hs hl in
        let hm : All (λ d. d < size G A) (s ∷ m) = (omega (arith, grown_size S G w.0), w.3) in
        let f = make_for_ready r P (s ∷ m) A hm in
        let v : Grown S G bare U = grown_trans S G valid (grown_trans S G w.0 f.0) in
        let i = next_inside v r P (s ∷ m) (inside_grown f.0 (s ∷ m) hm) in
        step_covers p r P C s l m w f.0 f.1 i
        (walk_covers C s (next G U r P (s ∷ m)) U v (omega (arith, grown_size S G w.0, grown_size S G f.0)) i)

  walks_cover_to : (view : Concept) (n : ℕ) → n ≤ G.objects
      → let T = upto (λ s. walk S G view s []) n bare in Grown S G bare T × ((p : ℕ) → p < n → Cov T view p [])
  unfolding upto size
  walks_cover_to view zero h = (same, λ p k. absurd (omega arith))
  walks_cover_to view (suc n) h =
      let T = upto (λ s. walk S G view s []) n bare in
      let k = walks_cover_to view n (omega arith) in
      let w = walk_covers view n [] T k.0 (omega (arith, grown_size S G k.0)) tt in (
        grown_trans S G k.0 w.0,
        up_to (λ p. Cov (walk S G view n [] T) view p []) n (λ p l. cov_grown w.0 view p [] (k.1 p l))
            w.1,
      )

  pub walks_cover : (view : Concept) → Grown S G bare (walks S G view) × ((p : ℕ) → p < G.objects → Cov (walks S G view) view p [])
  unfolding walks
  walks_cover view = walks_cover_to view G.objects (omega arith)
