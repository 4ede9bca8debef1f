-- The candidate is covered: from an object of the ground the view's steps never come to the closing object. At each place of
-- the view all objects of the ground stand together, each with the made objects on the list of its own walk; a step from one
-- of them leads to another object of the ground or along the made part, onto the list after the step.
use Prim.Native.Nat.{ℕ, zero, suc, ◌<◌}
use native.Mathlib.Omega.{arith}
use mathlib.Core.Bool.{false≢true}
use mathlib.Core.Logic.{◌⊎◌, inl, inr, ⊎_elim}
use mathlib.Core.Path.{◌≡◌, refl, sym, ap, subst, ◌∙◌}
use mathlib.Core.List.{List, [], ◌∷◌}
use Rattle.records.specs.State.{State}
use Rattle.records.specs.Schema.{Schema}
use Rattle.records.specs.Concept.{Direction, forward, backward, Concept, class, everything, constant, both, reached, common, mark, Path, empty, step}
use Rattle.records.specs.Semantics.{Steps, Leads}
use Rattle.chase.specs.Task.{Task}
use Rattle.chase.specs.Ground.{Ground}
use Rattle.chase.specs.Forest.{Forest, bare, size, hop, push, next, lacks}
use Rattle.chase.specs.Candidate.{chased, candidate_of}
use Rattle.records.proofs.General.AllLaws.{All, Mem, all_at}
use Rattle.chase.proofs.Reflection.{Covered, Along}
use Rattle.chase.proofs.ClosingLaws.{pair_cases}
use Rattle.chase.proofs.GroundLaws.{Grounded}
use Rattle.chase.proofs.ForestLaws.{Grown, ground_size, kid_parent}
use Rattle.chase.proofs.WalkLaws.{Ready, ready_inside, hop_inside, along, Cov, CovPath}
use Rattle.chase.proofs.CandidateLaws.{pair_is, link_inside}

pub push_here : (k e : ℕ) (l : List ℕ) → k ≡ suc e → Mem e (push k l)
push_here zero e l q = absurd (omega arith)
push_here (suc k) e l q = inl (omega arith)

pub push_later : (k e : ℕ) (l : List ℕ) → Mem e l → Mem e (push k l)
push_later zero e l m = m
push_later (suc k) e l m = inr m

next_mem : (G : Ground) (T : Forest) (r : Direction) (P d e : ℕ) (l : List ℕ) → hop G T r P d ≡ suc e → Mem d l → Mem e (next G T r P l)
next_mem G T r P d e [] q m = absurd m
next_mem G T r P d e (x ∷ l) q (inl i) = push_here (hop G T r P x) e (next G T r P l) (ap (hop G T r P) i ∙ q)
next_mem G T r P d e (x ∷ l) q (inr m) = push_later (hop G T r P x) e (next G T r P l) (next_mem G T r P d e l q m)

module _ (t : Task) (G : Ground) (node : ℕ → ℕ) (T : Forest) (grounded : Grounded t G node) (valid : Grown t.schema G bare T) where
  abbrev S : Schema
  S = t.schema

  abbrev K : State
  K = candidate_of t.schema G T

  -- a step of the candidate from a ready object
  step_hop : (r : Direction) (P d e : ℕ) → Ready S G T r P d → Steps K r P d e → (e < G.objects) ⊎ (hop G T r P d ≡ suc e)
  step_hop forward P d e h x =
      ⊎_elim
      (λ r. ⊎_elim (λ l. inl (link_inside t G node grounded P d e l).1) inr (pair_is S G T P d e r))
      (λ l. absurd (false≢true (sym h.1 ∙ l.0)))
      (pair_cases (chased S G T) (lacks S G T) (size G T) P d e x)
  step_hop backward P d e h x =
      ⊎_elim
      (λ r. ⊎_elim (λ l. inl (link_inside t G node grounded P e d l).0) (λ q. inr (kid_parent S G valid P d e q))
      (pair_is S G T P e d r))
      (λ l. absurd (omega (arith, l.1)))
      (pair_cases (chased S G T) (lacks S G T) (size G T) P e d x)

  -- the objects at one place of the view: those of the ground, and those on their lists
  Stands : (ℕ → List ℕ) → ℕ → Type 0
  Stands l v = (v < G.objects) ⊎ ((p : ℕ) × (p < G.objects) × Mem v (l p))

  module _ (l : ℕ → List ℕ) (r : Direction) (P : ℕ) (ready : (p : ℕ) → p < G.objects → All (Ready S G T r P) (p ∷ l p)) where
    stands_ready : (d : ℕ) → Stands l d → Ready S G T r P d
    unfolding Stands
    stands_ready d (inl h) = (ready d h).0
    stands_ready d (inr m) = all_at (Ready S G T r P) d (l m.0) (ready m.0 m.1).1 m.2

    hop_stands : (d e : ℕ) → Stands l d → hop G T r P d ≡ suc e → Stands (λ p. next G T r P (p ∷ l p)) e
    unfolding Stands
    hop_stands d e (inl h) q = inr (d, h, next_mem G T r P d e (d ∷ l d) q (inl refl))
    hop_stands d e (inr m) q = inr (m.0, m.1, next_mem G T r P d e (m.0 ∷ l m.0) q (inr m.2))

    -- a step leads below the closing object, to where the objects stand after the step
    step_stands : (d e : ℕ) → Stands l d → Steps K r P d e → (e < size G T) × Stands (λ p. next G T r P (p ∷ l p)) e
    unfolding Stands
    step_stands d e st x =
        let h = stands_ready d st in
        ⊎_elim (λ k. (omega (arith, ground_size G T), inl k))
        (λ q. (hop_inside S G valid r P d e (ready_inside S G T r P d h) q, hop_stands d e st q)) (step_hop r P d e h x)

  leads_stand : (p : Path) (l : ℕ → List ℕ) → ((q : ℕ) → q < G.objects → CovPath S G T p q (l q)) → (v w : ℕ) → Stands l v
      → Leads K p v w
      → Stands (λ q. along S G T p q (l q)) w
  leads_stand empty l cov v w st x = subst (Stands l) x st
  leads_stand (step p r P C) l cov v w st x =
      (step_stands (λ q. along S G T p q (l q)) r P (λ q h. (cov q h).1) x.0 w
      (leads_stand p l (λ q h. (cov q h).0) v x.0 st x.2.0) x.2.1).1

  mutual
    stands_covered : (C : Concept) (l : ℕ → List ℕ) → ((q : ℕ) → q < G.objects → Cov S G T C q (l q)) → (v : ℕ) → Stands l v
        → Covered (λ d. d < size G T) K C v
    stands_covered (class A) l cov v st = tt
    stands_covered everything l cov v st = tt
    stands_covered (constant a) l cov v st = tt
    stands_covered (both C D) l cov v st = (stands_covered C l (λ q h. (cov q h).0) v st, stands_covered D l (λ q h. (cov q h).1) v st)
    stands_covered (reached p) l cov v st = stands_along p l cov v st
    stands_covered (common p q) l cov v st = (stands_along p l (λ q h. (cov q h).0) v st, stands_along q l (λ q h. (cov q h).1) v st)
    stands_covered (mark k) l cov v st = tt

    stands_along : (p : Path) (l : ℕ → List ℕ) → ((q : ℕ) → q < G.objects → CovPath S G T p q (l q)) → (v : ℕ) → Stands l v
        → Along (λ d. d < size G T) K p v
    stands_along empty l cov v st = tt
    stands_along (step p r P C) l cov v st = (
      stands_along p l (λ q h. (cov q h).0) v st,
      λ d e hd x he s.
          let k = step_stands (λ q. along S G T p q (l q)) r P (λ q h. (cov q h).1) d e
          (leads_stand p l (λ q h. (cov q h).0) v d st x) s in
          (k.0, stands_covered C (λ q. next G T r P (q ∷ along S G T p q (l q))) (λ q h. (cov q h).2) e k.1),
    )

  pub covered : (view : Concept) → ((p : ℕ) → p < G.objects → Cov S G T view p []) → (d : ℕ) → d < G.objects
      → Covered (λ d. d < size G T) K view d
  unfolding Stands
  covered view cov d h = stands_covered view (λ p. []) cov d (inl h)
