-- How many pairs the candidate has: at most one for each object and attribute, and one more for each edge of the query.
-- Tests are counted as sums of ones; an edge is counted at its own attribute and origin alone.
use Prim.Native.Nat.{ℕ, zero, suc, ◌+◌, ◌*◌, ◌≤◌}
use native.Mathlib.Omega.{arith}
use native.Mathlib.Nat.{suc-mul}
use mathlib.Core.Bool.{Bool, true, false, cond, ◌&&◌, ◌||◌}
use mathlib.Core.List.{List, [], ◌∷◌}
use mathlib.Core.Path.{◌≡◌, refl, ap, ◌∙◌}
use lib.Dec.{eqb}
use lib.ListN.{length, length-append, length-map}
use borrow.Author.Tests.{eqb-true, ne_eqb}
use Rattle.records.specs.Finite.{count}
use Rattle.records.specs.Schema.{Schema}
use Rattle.records.specs.Helpers.Loops.{any_of}
use Rattle.records.specs.Concept.{Direction, forward, backward, Concept, class, everything, constant, both, reached, common, mark, Path, empty, step}
use Rattle.records.specs.Helpers.Steps.{concept_steps, path_steps}
use Rattle.chase.specs.Task.{Task, asked}
use Rattle.chase.specs.Primary.{primary}
use Rattle.chase.specs.Facts.{at_node, Edge, Facts, equal, related, ◌⊕◌, end_node, concept_facts, path_facts}
use Rattle.chase.specs.Ground.{Ground, listing, renumber, ground_of, ground}
use Rattle.chase.specs.Forest.{Forest, size, kid, push, lacks}
use Rattle.chase.specs.Candidate.{links, objects}
use Rattle.chase.specs.Targets.{sum, targets, pairs}
use Rattle.records.proofs.General.BoolLaws.{cond_elim, cond_elim₂}
use Rattle.chase.proofs.ListingLaws.{listing_length}
use Rattle.chase.proofs.ForestLaws.{kid_lacks}

pub sum_le : (n : ℕ) (f g : ℕ → ℕ) → ((i : ℕ) → f i ≤ g i) → sum n f ≤ sum n g
sum_le zero f g h = omega arith
sum_le (suc n) f g h = omega (arith, sum_le n f g h, h n)

sum_add : (n : ℕ) (f g : ℕ → ℕ) → sum n (λ i. f i + g i) ≡ sum n f + sum n g
sum_add zero f g = refl
sum_add (suc n) f g = omega (arith, sum_add n f g)

pub sum_same : (n c : ℕ) → sum n (λ i. c) ≡ n * c
sum_same zero c = omega arith
sum_same (suc n) c = omega (arith, sum_same n c, suc-mul n c)

-- a test as 1 or 0
abbrev one : Bool → ℕ
one b = cond b 1 0

one_or : (a b : Bool) → one (a || b) ≤ one a + one b
one_or true b = omega arith
one_or false b = omega arith

count_sum : (test : ℕ → Bool) (n : ℕ) → count n test ≡ sum n (λ i. one (test i))
unfolding count
count_sum test zero = refl
count_sum test (suc n) =
    cond_elim₂ (λ c v. c ≡ sum n (λ i. one (test i)) + v) (test n) (λ _. omega (arith, count_sum test n))
    (λ _. omega (arith, count_sum test n))

-- one number at most equals y
sum_before : (y n : ℕ) → n ≤ y → sum n (λ i. one (eqb y i)) ≡ 0
sum_before y zero h = refl
sum_before y (suc n) h = omega (arith, sum_before y n (omega arith), ap one (ne_eqb y n (omega arith)))

sum_equal : (y n : ℕ) → sum n (λ i. one (eqb y i)) ≤ 1
sum_equal y zero = omega arith
sum_equal y (suc n) =
    cond_elim (λ v. sum n (λ i. one (eqb y i)) + v ≤ 1) (eqb y n)
    (λ b. omega (arith, sum_before y n (omega (arith, eqb-true y n b)))) (λ _. omega (arith, sum_equal y n))

sum_test : (b : Bool) (y n : ℕ) → sum n (λ i. one (b && eqb y i)) ≤ one b
sum_test true y n = sum_equal y n
sum_test false y n = omega (arith, sum_same n 0)

-- the edges with attribute P from d
abbrev from : ℕ → ℕ → List Edge → ℕ
from P d [] = zero
from P d (f ∷ l) = one (eqb f.attribute P && eqb f.origin d) + from P d l

-- there are no more targets than edges
targets_from : (P d n : ℕ) (l : List Edge)
    → sum n (λ e. one (any_of (λ f. eqb f.attribute P && eqb f.origin d && eqb f.target e) l)) ≤ from P d l
unfolding any_of
targets_from P d n [] = omega (arith, sum_same n 0)
targets_from P d n (f ∷ l) =
    let b = eqb f.attribute P && eqb f.origin d in
    let rest : ℕ → Bool = λ e. any_of (λ g. eqb g.attribute P && eqb g.origin d && eqb g.target e) l in
    omega (
      arith,
      sum_le n (λ e. one (b && eqb f.target e || rest e)) (λ e. one (b && eqb f.target e) + one (rest e))
          (λ e. one_or (b && eqb f.target e) (rest e)),
      sum_add n (λ e. one (b && eqb f.target e)) (λ e. one (rest e)),
      sum_test b f.target n,
      targets_from P d n l,
    )

-- each edge is from one place
all_from : (a n : ℕ) (l : List Edge) → sum a (λ P. sum n (λ d. from P d l)) ≤ length l
all_from a n [] = omega (arith, sum_le a (λ P. sum n (λ d. 0)) (λ P. n * 0) (λ P. omega (arith, sum_same n 0)), sum_same a (n * 0))
all_from a n (f ∷ l) =
    let here : ℕ → ℕ → ℕ = λ P d. one (eqb f.attribute P && eqb f.origin d) in
    omega (
      arith,
      sum_le a (λ P. sum n (λ d. here P d + from P d l)) (λ P. one (eqb f.attribute P) + sum n (λ d. from P d l))
          (λ P. omega (arith, sum_add n (here P) (λ d. from P d l), sum_test (eqb f.attribute P) f.origin n)),
      sum_add a (λ P. one (eqb f.attribute P)) (λ P. sum n (λ d. from P d l)),
      sum_equal f.attribute a,
      all_from a n l,
    )

module _ (S : Schema) (G : Ground) (T : Forest) where
  -- a made value and the closing object exclude each other
  rest_length : (P d : ℕ) → length (push (kid G T P d) (cond (lacks S G T P d) (size G T ∷ []) [])) ≤ 1
  rest_length P d = go (kid G T P d) refl
    where
      go : (k : ℕ) → kid G T P d ≡ k → length (push k (cond (lacks S G T P d) (size G T ∷ []) [])) ≤ 1
      go zero q = cond_elim {A = List ℕ} (λ l. length l ≤ 1) (lacks S G T P d) (λ _. omega arith) (λ _. omega arith)
      go (suc e) q = omega (arith, ap (λ (b : Bool). length (cond b (size G T ∷ []) [])) (kid_lacks S G T P d e q))

  targets_length : (P d : ℕ) → length (targets S G T P d) ≤ from P d G.edges + 1
  unfolding targets links
  targets_length P d =
      omega (
        arith,
        length-append (listing (links G P d) (λ e. e) G.objects) (push (kid G T P d) (cond (lacks S G T P d) (size G T ∷ []) [])),
        listing_length (links G P d) (λ e. e) G.objects,
        count_sum (links G P d) G.objects,
        targets_from P d G.objects G.edges,
        rest_length P d,
      )

  pub pairs_bound : pairs S G T ≤ S.signature.attributes * objects S G T + length G.edges
  unfolding pairs
  pairs_bound =
      let a = S.signature.attributes in
      let n = objects S G T in
      let F : ℕ → ℕ → ℕ = λ P d. from P d G.edges in
      let each : (P : ℕ) → sum n (λ d. length (targets S G T P d)) ≤ sum n (F P) + n
      = λ P. omega (
        arith,
        sum_le n (λ d. length (targets S G T P d)) (λ d. F P d + 1) (targets_length P),
        sum_add n (F P)
            (λ d. 1),
        sum_same n 1,
      ) in
      omega (
        arith,
        sum_le a (λ P. sum n (λ d. length (targets S G T P d))) (λ P. sum n (F P) + n) each,
        sum_add a (λ P. sum n (F P)) (λ P. n),
        sum_same a n,
        all_from a n G.edges,
      )

-- the query has an edge for each of its steps
edges_append : (F H : Facts) → length (F ⊕ H).edges ≡ length F.edges + length H.edges
edges_append F H = length-append F.edges H.edges

related_edges : (r : Direction) (P n m : ℕ) → length (related r P n m).edges ≡ 1
related_edges forward P n m = refl
related_edges backward P n m = refl

mutual
  concept_edges : (C : Concept) (first n k : ℕ) → length (concept_facts first C n k).edges ≡ concept_steps C
  concept_edges (class A) f n k = refl
  concept_edges everything f n k = refl
  concept_edges (constant a) f n k = refl
  concept_edges (both C D) f n k =
      let m = k + concept_steps C in
      omega (arith, edges_append (concept_facts f D n m) (concept_facts f C n k), concept_edges D f n m, concept_edges C f n k)
  concept_edges (reached p) f n k = path_edges p f n k
  concept_edges (common p q) f n k =
      let m = k + path_steps p in
      let E = equal (end_node p n k) (at_node (end_node q n m)) in
      omega (
        arith,
        edges_append (path_facts f q n m ⊕ E) (path_facts f p n k),
        edges_append (path_facts f q n m) E,
        path_edges q f n m,
        path_edges p f n k,
      )
  concept_edges (mark m) f n k = refl

  path_edges : (p : Path) (first n k : ℕ) → length (path_facts first p n k).edges ≡ path_steps p
  path_edges empty f n k = refl
  path_edges (step p r P C) f n k =
      let m = k + path_steps p in
      let j = m + concept_steps C in
      let E = related r P (end_node p n k) j in
      omega (
        arith,
        edges_append (concept_facts f C j m ⊕ E) (path_facts f p n k),
        edges_append (concept_facts f C j m) E,
        related_edges r P (end_node p n k) j,
        concept_edges C f j m,
        path_edges p f n k,
      )

pub asked_edges : (t : Task) → length (asked t).edges ≡ concept_steps t.query
unfolding asked
asked_edges t = concept_edges t.query (suc (concept_steps t.query)) (concept_steps t.query) zero

pub ground_edges : (t : Task) → length (ground t).edges ≡ concept_steps t.query
unfolding ground ground_of
ground_edges t = length-map (asked t).edges (renumber (primary t)) ∙ asked_edges t
