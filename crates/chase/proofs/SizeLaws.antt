-- How many objects are made: at the k-th step of the view at most k from each object of the ground, so at most
-- tri n for a view of n steps.
use Prim.Native.Nat.{ℕ, zero, suc, ◌+◌, ◌-◌, ◌*◌, ◌≤◌}
use native.Mathlib.Omega.{arith}
use native.Mathlib.Nat.{suc-mul, mul-le-mul_left, add-zero, zero-add}
use mathlib.Core.Path.{◌≡◌, refl, ap}
use mathlib.Core.List.{List, [], ◌∷◌}
use lib.ListN.{length}
use Rattle.records.specs.Schema.{Schema}
use Rattle.records.specs.Concept.{Direction, forward, backward, Concept, class, everything, constant, both, reached, common, mark, Path, empty, step}
use Rattle.records.specs.Helpers.Loops.{each, upto}
use Rattle.records.specs.Helpers.Steps.{concept_steps, path_steps}
use Rattle.chase.specs.Ground.{Ground}
use Rattle.chase.specs.Forest.{Forest, bare, size, hop, push, next, lacks, make, make_for, walk, trek, walks}
use Rattle.records.proofs.General.BoolLaws.{cond_elim}
use Rattle.chase.specs.Bounds.{tri}
use Rattle.records.specs.Layout.{view_steps}

tri_next : (n m : ℕ) → n ≡ suc m → tri n ≡ tri m + suc m
tri_next n m e = ap tri e

tri_mono : (n k : ℕ) → tri n ≤ tri (n + k)
tri_mono n zero = omega (arith, ap tri (add-zero n))
tri_mono n (suc k) = omega (arith, tri_mono n k, tri_next (n + suc k) (n + k) (omega arith))

-- later steps make more
tri_convex : (j a b : ℕ) → tri (j + a) + tri (j + b) ≤ tri j + tri (j + (a + b))
tri_convex j zero b = omega (arith, ap tri (add-zero j), ap (λ (n : ℕ). tri (j + n)) (zero-add b))
tri_convex j (suc a) b =
    omega (arith, tri_convex j a b, tri_next (j + suc a) (j + a) (omega arith), tri_next (j + (suc a + b)) (j + (a + b)) (omega arith))

module _ (S : Schema) (G : Ground) where
  make_size : (P d : ℕ) (T : Forest) → size G (make S G P d T) ≤ suc (size G T)
  unfolding make size
  make_size P d T = cond_elim (λ U. size G U ≤ suc (size G T)) (lacks S G T P d) (λ _. omega arith) (λ _. omega arith)

  make_for_size : (r : Direction) (P : ℕ) (l : List ℕ) (T : Forest) → size G (make_for S G r P l T) ≤ size G T + length l
  unfolding make_for each
  make_for_size forward P [] T = omega arith
  make_for_size forward P (d ∷ l) T = omega (arith, make_for_size forward P l (make S G P d T), make_size P d T)
  make_for_size backward P l T = omega arith

  push_length : (k : ℕ) (l : List ℕ) → length (push k l) ≤ suc (length l)
  push_length zero l = omega arith
  push_length (suc e) l = omega arith

  next_length : (T : Forest) (r : Direction) (P : ℕ) (l : List ℕ) → length (next G T r P l) ≤ length l
  next_length T r P [] = omega arith
  next_length T r P (d ∷ l) = omega (arith, push_length (hop G T r P d) (next G T r P l), next_length T r P l)

  -- a step makes a value for each object on the list at most
  step_size : (p : Path) (C : Concept) (s : ℕ) (r : Direction) (P : ℕ) (A : Forest) (m : List ℕ) (j n : ℕ)
      → (size G A + tri j ≤ n + tri (j + path_steps p)) × (length m ≤ j + path_steps p)
      → ((k : List ℕ) (U : Forest) (i : ℕ) → length k ≤ i → size G (walk S G C s k U) + tri i ≤ size G U + tri (i + concept_steps C))
      → let U = make_for S G r P (s ∷ m) A in
      let k = next G U r P (s ∷ m) in
      (size G (walk S G C s k U) + tri j ≤ n + tri (j + suc (path_steps p + concept_steps C)))
      × (length k ≤ j + suc (path_steps p + concept_steps C))
  step_size p C s r P A m j n w rest =
      let U = make_for S G r P (s ∷ m) A in
      let i = j + path_steps p in
      let hk : length (next G U r P (s ∷ m)) ≤ suc i = omega (arith, w.1, next_length U r P (s ∷ m)) in
      let q : suc i + concept_steps C ≡ j + suc (path_steps p + concept_steps C) = omega arith in (
        omega (
          arith,
          w.0,
          w.1,
          make_for_size r P (s ∷ m) A,
          rest (next G U r P (s ∷ m)) U (suc i) hk,
          tri_next
              (suc i) i refl,
          ap tri q,
        ),
        omega (arith, hk),
      )

  mutual
    pub walk_size : (C : Concept) (s : ℕ) (l : List ℕ) (T : Forest) (j : ℕ) → length l ≤ j
        → size G (walk S G C s l T) + tri j ≤ size G T + tri (j + concept_steps C)
    walk_size (class A) s l T j h = omega (arith, tri_mono j 0)
    walk_size everything s l T j h = omega (arith, tri_mono j 0)
    walk_size (constant a) s l T j h = omega (arith, tri_mono j 0)
    walk_size (both C D) s l T j h =
        omega (arith, walk_size C s l T j h, walk_size D s l (walk S G C s l T) j h, tri_convex j (concept_steps C) (concept_steps D))
    walk_size (reached p) s l T j h = (trek_size p s l T j h).0
    walk_size (common p q) s l T j h =
        omega (arith, (trek_size p s l T j h).0, (trek_size q s l (trek S G p s l T).0 j h).0, tri_convex j (path_steps p) (path_steps q))
    walk_size (mark k) s l T j h = omega (arith, tri_mono j 0)

    pub trek_size : (p : Path) (s : ℕ) (l : List ℕ) (T : Forest) (j : ℕ) → length l ≤ j
        → (size G (trek S G p s l T).0 + tri j ≤ size G T + tri (j + path_steps p)) × (length (trek S G p s l T).1 ≤ j + path_steps p)
    trek_size empty s l T j h = (omega (arith, tri_mono j 0), omega arith)
    trek_size (step p r P C) s l T j h =
        step_size p C s r P (trek S G p s l T).0 (trek S G p s l T).1 j (size G T) (trek_size p s l T j h)
        (λ k U i g. walk_size C s k U i g)

  walks_size_to : (view : Concept) (n : ℕ) → size G (upto (λ s. walk S G view s []) n bare) ≤ G.objects + n * tri (concept_steps view)
  unfolding upto size
  walks_size_to view zero = omega arith
  walks_size_to view (suc n) =
      let T = upto (λ s. walk S G view s []) n bare in
      omega (
        arith,
        walks_size_to view n,
        walk_size view n [] T zero (omega arith),
        suc-mul n (tri (concept_steps view)),
        ap tri
            (zero-add (concept_steps view)),
      )

  pub walks_size : (view : Concept) → concept_steps view ≤ view_steps → size G (walks S G view) ≤ G.objects + G.objects * tri view_steps
  unfolding walks
  walks_size view h =
      let n = concept_steps view in
      let q : n + (view_steps - n) ≡ view_steps = omega arith in
      let small : tri n ≤ tri view_steps = omega (arith, tri_mono n (view_steps - n), ap tri q) in
      omega (arith, walks_size_to view G.objects, mul-le-mul_left G.objects small)
