-- The numbered primary part has what the primary part has: it is closed under the axioms, and all that it says follows
-- from the query, object d standing for a node (Grounded).
use Prim.Native.Nat.{ℕ, ◌<◌}
use native.Mathlib.Omega.{arith}
use mathlib.Core.Bool.{So}
use mathlib.Core.Path.{◌≡◌, sym, ap, subst, subst₂, ◌∙◌}
use lib.ListN.{get_or}
use borrow.Author.Tests.{eq-eqb}
use Rattle.records.specs.Finite.{count}
use Rattle.records.specs.State.{Member, Related}
use Rattle.chase.specs.ClassSet.{has}
use Rattle.chase.specs.Axioms.{domain, values, is_single, raise}
use Rattle.chase.specs.Facts.{Edge}
use Rattle.chase.specs.Task.{Task, WellFormed, nodes, start_node, constant_node, mark_node, asked}
use Rattle.chase.specs.Primary.{Prime, rep_of, set_of, rival}
use Rattle.chase.specs.Ground.{Ground, set_at, live, object_of, listing, renumber, ground_of}
use Rattle.records.proofs.General.BoolLaws.{and_both}
use Rattle.records.proofs.General.AllLaws.{All, all_map, all_zip, all_mapped}
use Rattle.chase.proofs.AxiomLaws.{Small}
use Rattle.chase.proofs.Consequence.{Follows}
use Rattle.records.proofs.General.CountLaws.{count_lt, pick, pick_is, count_injective}
use Rattle.chase.proofs.ListingLaws.{listing_at}
use Rattle.chase.proofs.PrimeLaws.{Ok, set_small, set_sound}
use Rattle.chase.proofs.AskedLaws.{mark_inside, IsEdge, are_edges}
use Rattle.chase.proofs.PrimaryLaws.{Closed}

pub record Grounded (t : Task) (G : Ground) (node : ℕ → ℕ) : Type 0 where
  -- in order and closed
  pub small : (d : ℕ) → d < G.objects → Small t.schema (set_at G d)
  pub raised : (d : ℕ) → d < G.objects → raise t.schema (set_at G d) ≡ set_at G d
  pub edges : All (λ e. (e.origin < G.objects) × (e.target < G.objects)) G.edges
  pub origins : All (λ e. (A : ℕ) → So (has (domain t.schema e.attribute) A) → So (has (set_at G e.origin) A)) G.edges
  pub targets :
      All (λ e. (A : ℕ) → So (has (values t.schema (set_at G e.origin) e.attribute) A) → So (has (set_at G e.target) A))
      G.edges
  pub singles :
      All
      (λ e. All (λ f. e.attribute ≡ f.attribute → e.origin ≡ f.origin → So (is_single t.schema (set_at G e.origin) e.attribute)
      → e.target ≡ f.target) G.edges)
      G.edges
  pub start : G.start < G.objects
  pub constants : (a : ℕ) → a < t.schema.signature.constants → G.constants a < G.objects
  pub marks : (k : ℕ) → G.marks k < G.objects
  -- following
  pub members : (A d : ℕ) → d < G.objects → So (has (set_at G d) A) → Follows t λ I g. Member I A (g (node d))
  pub pairs : All (λ e. Follows t λ I g. Related I e.attribute (g (node e.origin)) (g (node e.target))) G.edges
  pub names : (a : ℕ) → a < t.schema.signature.constants → Follows t λ I g. g (node (G.constants a)) ≡ I.names a
  pub root : Follows t λ I g. g (node G.start) ≡ g (start_node t)

-- the node that object d stands for
pub node_of : Task → Prime → ℕ → ℕ
node_of t x d = pick (live x) (nodes t) d

module _ (t : Task) (x : Prime) (ok : Ok t x) where
  -- a node's representative counts, and has the node's classes
  rep_live : (n : ℕ) → n < nodes t → So (live x (rep_of x n))
  unfolding live
  rep_live n h = eq-eqb (rep_of x (rep_of x n)) (rep_of x n) (ok.fixed n h)

  rep_set : (n : ℕ) → n < nodes t → set_of x (rep_of x n) ≡ set_of x n
  unfolding set_of
  rep_set n h = ap (λ (r : ℕ). get_or x.sets r 0) (ok.fixed n h)

  pub object_inside : (n : ℕ) → n < nodes t → object_of x n < (ground_of t x).objects
  unfolding object_of ground_of
  object_inside n h = count_lt (live x) (nodes t) (rep_of x n) (ok.inside n h) (rep_live n h)

  pub object_set : (n : ℕ) → n < nodes t → set_at (ground_of t x) (object_of x n) ≡ set_of x n
  unfolding object_of ground_of
  object_set n h = listing_at (live x) (set_of x) (nodes t) (rep_of x n) (ok.inside n h) (rep_live n h) ∙ rep_set n h

  pub object_rep : (n m : ℕ) → n < nodes t → m < nodes t → object_of x n ≡ object_of x m → rep_of x n ≡ rep_of x m
  unfolding object_of
  object_rep n m h k e = count_injective (live x) (rep_of x n) (rep_of x m) (rep_live n h) (rep_live m k) e

  pub rep_object : (n m : ℕ) → rep_of x n ≡ rep_of x m → object_of x n ≡ object_of x m
  unfolding object_of
  rep_object n m e = ap (λ (r : ℕ). count r (live x)) e

  module _ (d : ℕ) (h : d < (ground_of t x).objects) where
    node_is : (node_of t x d < nodes t) × So (live x (node_of t x d)) × (count (node_of t x d) (live x) ≡ d)
    unfolding node_of ground_of
    node_is = pick_is (live x) (nodes t) d h

    node_set : set_at (ground_of t x) d ≡ set_of x (node_of t x d)
    unfolding ground_of
    node_set =
        ap (λ (i : ℕ). get_or (listing (live x) (set_of x) (nodes t)) i 0) (sym node_is.2)
        ∙ listing_at (live x) (set_of x) (nodes t) (node_of t x d) node_is.0 node_is.1

  node_object : (n : ℕ) → n < nodes t → node_of t x (object_of x n) ≡ rep_of x n
  unfolding object_of
  node_object n h =
      let k = node_is (object_of x n) (object_inside n h) in
      count_injective (live x) (node_of t x (object_of x n)) (rep_of x n) k.1 (rep_live n h) k.2

  -- an object has what its nodes have
  object_same : (n : ℕ) → n < nodes t → Follows t λ I g. g (node_of t x (object_of x n)) ≡ g n
  object_same n h I g fits = ap g (node_object n h) ∙ sym (ok.same I g fits n h)

module _ (t : Task) (formed : WellFormed t) (x : Prime) (ok : Ok t x) (closed : Closed t x) where
  -- a statement of each edge of the numbered part, from the edges between nodes
  each_edge : (X : Edge → Type 0) → ((e : Edge) → IsEdge t formed e → X (renumber x e)) → All X (ground_of t x).edges
  unfolding ground_of
  each_edge X f = all_mapped X (renumber x) (asked t).edges (all_map f (asked t).edges (are_edges t formed))

  with_edge : (X Y : Edge → Type 0) → ((e : Edge) → IsEdge t formed e → Y e → X (renumber x e)) → All Y (asked t).edges
      → All X (ground_of t x).edges
  unfolding ground_of
  with_edge X Y f h = all_mapped X (renumber x) (asked t).edges (all_zip f (asked t).edges (are_edges t formed) h)

  origin_set : (e : Edge) → IsEdge t formed e → set_at (ground_of t x) (object_of x e.origin) ≡ set_of x e.origin
  origin_set e k = object_set t x ok e.origin k.0

  same_target : (e f : Edge) → IsEdge t formed e → IsEdge t formed f
      → (So (rival t.schema e f x) → rep_of x e.target ≡ rep_of x f.target)
      → e.attribute ≡ f.attribute → object_of x e.origin ≡ object_of x f.origin
      → So (is_single t.schema (set_at (ground_of t x) (object_of x e.origin)) e.attribute)
      → object_of x e.target ≡ object_of x f.target
  same_target e f k l rest p o s =
      rep_object t x ok e.target f.target
      (rest (and_both _ _
      (and_both _ _ (eq-eqb _ _ p) (eq-eqb _ _ (object_rep t x ok e.origin f.origin k.0 l.0 o)))
      (subst (λ (c : ℕ). So (is_single t.schema c e.attribute)) (origin_set e k) s)))

  pub grounded : Grounded t (ground_of t x) (node_of t x)
  unfolding ground_of
  grounded =
      record {
        small = λ d h. subst (Small t.schema) (sym (node_set t x ok d h)) (set_small t x ok (node_of t x d) (node_is t x ok d h).0);
        raised = λ d h. ap (raise t.schema) (node_set t x ok d h) ∙ closed.raised (node_of t x d) (node_is t x ok d h).0 ∙ sym
            (node_set t x ok d h);
        edges = each_edge _ (λ e k. (object_inside t x ok e.origin k.0, object_inside t x ok e.target k.1));
        origins =
            with_edge _ _ (λ e k h A a. subst (λ (c : ℕ). So (has c A)) (sym (origin_set e k)) (h A a)) closed.origins;
        targets =
            with_edge _ _
            (λ e k h A a.
            subst (λ (c : ℕ). So (has c A)) (sym (object_set t x ok e.target k.1))
            (h A (subst (λ (c : ℕ). So (has (values t.schema c e.attribute) A)) (origin_set e k) a)))
            closed.targets;
        singles = with_edge _ _ (λ e k h. with_edge _ _ (λ f l. same_target e f k l) h) closed.singles;
        start = object_inside t x ok (start_node t) (omega arith);
        constants = λ a h. object_inside t x ok (constant_node t a) (omega arith);
        marks = λ k. object_inside t x ok (mark_node t k) (mark_inside t formed k);
        members = λ A d h a I g fits.
            set_sound t x ok I g fits (node_of t x d) (node_is t x ok d h).0 A (subst (λ (c : ℕ). So (has c A)) (node_set t x ok d h) a);
        pairs =
            each_edge _ (λ e k I g fits.
            subst₂ (Related I e.attribute) (sym (object_same t x ok e.origin k.0 I g fits))
            (sym (object_same t x ok e.target k.1 I g fits))
            (k.2 I g fits));
        names = λ a h I g fits. object_same t x ok (constant_node t a) (omega arith) I g fits ∙ fits.assigns.constants a h;
        root = λ I g fits. object_same t x ok (start_node t) (omega arith) I g fits;
      }
