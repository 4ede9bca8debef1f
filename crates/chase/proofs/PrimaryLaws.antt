-- The primary part at its end is in order, and no rule adds to it (Closed).
-- Each rule grows, since its fact follows from the query; so does the pass, and at its fixed point every rule is at rest.
use Prim.Native.Nat.{ℕ, zero, suc, ◌^◌, ◌<◌}
use native.Mathlib.Omega.{arith}
use mathlib.Core.Bool.{Bool, So, cond, ◌&&◌}
use mathlib.Core.Logic.{◌⊎◌, inl}
use mathlib.Core.Path.{◌≡◌, refl, sym, ap, subst, subst₂, ◌∙◌}
use mathlib.Core.List.{List}
use lib.Dec.{eqb}
use lib.ListN.{get_or, replicate, length-replicate, get_or-replicate}
use lib.Pow.{pow_pos}
use borrow.Author.Tests.{eqb-true}
use Rattle.records.specs.State.{Member, Related}
use Rattle.records.specs.Helpers.Loops.{each}
use Rattle.chase.specs.ClassSet.{place, has}
use Rattle.chase.specs.Axioms.{domain, values, is_single, raise}
use Rattle.chase.specs.Facts.{Membership, Edge}
use Rattle.chase.specs.Task.{Task, WellFormed, nodes, asked, Tie, ties}
use Rattle.chase.specs.Primary.{Prime, rep_of, set_of, merge, equate, assert, lift, type_origin, type_target, rival, unify, equate_all, assert_all, lift_all, type_all, unify_all, pass, weight, numbers_from, begin, bound, settled, primary}
use Rattle.records.proofs.General.BoolLaws.{cond_elim, and_parts}
use Rattle.records.proofs.General.AllLaws.{All, all_map, all_zip}
use Rattle.records.proofs.General.LoopLaws.{Grows, then_grows, then_fixed, each_grows, each_fixed, upto_grows, upto_fixed, settle_ok, settle_fixed, settle_next, settle_stop}
use Rattle.chase.proofs.ClassSetLaws.{place_has, place_only, place_below, has_none, has_absorbed}
use Rattle.chase.proofs.AxiomLaws.{domain_small, values_small}
use Rattle.chase.proofs.ClosureLaws.{domain_sound, values_sound, single_sound, raise_forced, raise_fixed}
use Rattle.chase.proofs.Consequence.{Follows}
use Rattle.chase.proofs.ListLaws.{numbers_length, numbers_at}
use Rattle.chase.proofs.AskedLaws.{IsTie, are_ties, IsMember, are_members, IsEdge, are_edges}
use Rattle.chase.proofs.PrimeLaws.{Ok, set_small, set_sound, add_grows, add_fixed, merge_grows, merge_fixed, weight_bound}

module _ (t : Task) (formed : WellFormed t) where
  abbrev Rises : (Prime → Prime) → Type 0
  Rises = Grows weight (Ok t)

  equate_grows : (f : Tie) → IsTie t formed f → Rises (equate f)
  equate_grows f k x ok = merge_grows t x ok f.left f.right k.0 k.1 k.2

  assert_grows : (f : Membership) → IsMember t formed f → Rises (assert f)
  assert_grows f k x ok =
      add_grows t x ok f.node (place f.class) k.1 (place_below t.schema.signature.classes f.class k.0)
      (λ I g fits B b. subst (λ (C : ℕ). Member I C (g f.node)) (place_only f.class B b) (k.2 I g fits))

  lift_grows : (n : ℕ) → n < nodes t → Rises (lift t.schema n)
  lift_grows n h x ok =
      let r = raise_forced t.schema formed.axioms (set_of x n) (set_small t x ok n h) in
      add_grows t x ok n (raise t.schema (set_of x n)) h r.small
      (λ I g fits. r.sound I fits.legal (g n) (fits.assigns.inside n) (set_sound t x ok I g fits n h))

  origin_grows : (e : Edge) → IsEdge t formed e → Rises (type_origin t.schema e)
  origin_grows e k x ok =
      add_grows t x ok e.origin (domain t.schema e.attribute) k.0 (domain_small t.schema formed.axioms e.attribute)
      (λ I g fits.
      domain_sound t.schema I fits.legal e.attribute (g e.origin) (g e.target) (fits.assigns.inside _)
      (fits.assigns.inside _)
      (k.2 I g fits))

  target_grows : (e : Edge) → IsEdge t formed e → Rises (type_target t.schema e)
  target_grows e k x ok =
      add_grows t x ok e.target (values t.schema (set_of x e.origin) e.attribute) k.1
      (values_small t.schema formed.axioms (set_of x e.origin) e.attribute)
      (λ I g fits.
      values_sound t.schema I fits.legal (set_of x e.origin) e.attribute (g e.origin) (g e.target)
      (fits.assigns.inside _)
      (fits.assigns.inside _) (set_sound t x ok I g fits e.origin k.0) (k.2 I g fits))

  type_grows : (e : Edge) → IsEdge t formed e → Rises (λ x. type_target t.schema e (type_origin t.schema e x))
  type_grows e k = then_grows weight (Ok t) (type_origin t.schema e) (type_target t.schema e) (origin_grows e k) (target_grows e k)

  module _ (e f : Edge) (k : IsEdge t formed e) (l : IsEdge t formed f) (x : Prime) (ok : Ok t x) where
    rival_parts : So (rival t.schema e f x)
        → (e.attribute ≡ f.attribute) × (rep_of x e.origin ≡ rep_of x f.origin)
        × So (is_single t.schema (set_of x e.origin) e.attribute)
    rival_parts h =
        let a = eqb e.attribute f.attribute in
        let b = eqb (rep_of x e.origin) (rep_of x f.origin) in
        let u = and_parts (a && b) (is_single t.schema (set_of x e.origin) e.attribute) h in
        let v = and_parts a b u.0 in
        (eqb-true _ _ v.0, eqb-true _ _ v.1, u.1)

    rival_same : So (rival t.schema e f x) → Follows t λ I g. g e.target ≡ g f.target
    rival_same h I g fits =
        let r = rival_parts h in
        let q : g f.origin ≡ g e.origin
        = ok.same I g fits f.origin l.0 ∙ ap g (sym r.1) ∙ sym (ok.same I g fits e.origin k.0) in
        single_sound t.schema I fits.legal (set_of x e.origin) e.attribute (g e.origin) (g e.target) (g f.target)
        (fits.assigns.inside _) (fits.assigns.inside _) (fits.assigns.inside _) (set_sound t x ok I g fits e.origin k.0)
        r.2 (k.2 I g fits)
        (subst₂ (λ (R d : ℕ). Related I R d (g f.target)) (sym r.0) q (l.2 I g fits))

    unify_fixed : unify t.schema e f x ≡ x → So (rival t.schema e f x) → rep_of x e.target ≡ rep_of x f.target
    unify_fixed q h =
        merge_fixed t x ok e.target f.target k.1 l.1 (rival_same h)
        (ap (λ (b : Bool). cond b (merge e.target f.target x) x) (sym h) ∙ q)

  unify_grows : (e f : Edge) → IsEdge t formed e → IsEdge t formed f → Rises (unify t.schema e f)
  unify_grows e f k l x ok =
      cond_elim (λ y. Ok t y × ((y ≡ x) ⊎ (weight x < weight y))) (rival t.schema e f x)
      (λ h. merge_grows t x ok e.target f.target k.1 l.1 (rival_same e f k l x ok h)) (λ _. (ok, inl refl))

  unify_each : (e : Edge) → IsEdge t formed e → All (λ f. Rises (unify t.schema e f)) (asked t).edges
  unify_each e k = all_map (λ f l. unify_grows e f k l) (asked t).edges (are_edges t formed)

  unify_all_lem : (e : Edge) → IsEdge t formed e → Rises (each (unify t.schema e) (asked t).edges)
  unify_all_lem e k = each_grows weight (Ok t) (unify t.schema e) (asked t).edges (unify_each e k)

-- no rule adds anything to x
pub record Closed (t : Task) (x : Prime) : Type 0 where
  pub ties : All (λ f. rep_of x f.left ≡ rep_of x f.right) (ties t)
  pub members : All (λ f. So (has (set_of x f.node) f.class)) (asked t).members
  pub raised : (n : ℕ) → n < nodes t → raise t.schema (set_of x n) ≡ set_of x n
  pub origins : All (λ e. (A : ℕ) → So (has (domain t.schema e.attribute) A) → So (has (set_of x e.origin) A)) (asked t).edges
  pub targets :
      All (λ e. (A : ℕ) → So (has (values t.schema (set_of x e.origin) e.attribute) A) → So (has (set_of x e.target) A))
      (asked t).edges
  pub singles :
      All (λ e. All (λ f. So (rival t.schema e f x) → rep_of x e.target ≡ rep_of x f.target) (asked t).edges) (asked t).edges

module _ (t : Task) (formed : WellFormed t) where
  -- the pass, from its last loop to its first
  unify_rises : Grows weight (Ok t) (unify_all t)
  unify_rises = each_grows weight (Ok t) _ (asked t).edges (all_map (unify_all_lem t formed) (asked t).edges (are_edges t formed))

  type_rises : Grows weight (Ok t) (type_all t)
  type_rises = each_grows weight (Ok t) _ (asked t).edges (all_map (type_grows t formed) (asked t).edges (are_edges t formed))

  from_type : Grows weight (Ok t) (λ x. unify_all t (type_all t x))
  from_type = then_grows weight (Ok t) (type_all t) (unify_all t) type_rises unify_rises

  lift_rises : Grows weight (Ok t) (lift_all t)
  lift_rises = upto_grows weight (Ok t) (lift t.schema) (nodes t) (lift_grows t formed)

  from_lift : Grows weight (Ok t) (λ x. unify_all t (type_all t (lift_all t x)))
  from_lift = then_grows weight (Ok t) (lift_all t) (λ x. unify_all t (type_all t x)) lift_rises from_type

  assert_rises : Grows weight (Ok t) (assert_all t)
  assert_rises = each_grows weight (Ok t) assert (asked t).members
      (all_map (assert_grows t formed) (asked t).members (are_members t formed))

  from_assert : Grows weight (Ok t) (λ x. unify_all t (type_all t (lift_all t (assert_all t x))))
  from_assert = then_grows weight (Ok t) (assert_all t) (λ x. unify_all t (type_all t (lift_all t x))) assert_rises from_lift

  equate_rises : Grows weight (Ok t) (equate_all t)
  equate_rises = each_grows weight (Ok t) equate (ties t) (all_map (equate_grows t formed) (ties t) (are_ties t formed))

  pub pass_grows : Grows weight (Ok t) (pass t)
  pass_grows = then_grows weight (Ok t) (equate_all t) (λ x. unify_all t (type_all t (lift_all t (assert_all t x)))) equate_rises from_assert

  -- at a fixed point every rule is at rest
  module _ (x : Prime) (ok : Ok t x) where
    at_rest : {A : Type 0} {X Y : A → Type 0} (run : A → Prime → Prime) (l : List A) → ((a : A) → X a → Grows weight (Ok t) (run a))
        → All X l
        → each run l x ≡ x → ((a : A) → X a → run a x ≡ x → Y a) → All Y l
    at_rest run l grows h q rest = all_zip rest l h (each_fixed weight (Ok t) run l (all_map grows l h) x ok q)

    types_closed : type_all t x ≡ x → All (λ e. (type_origin t.schema e x ≡ x) × (type_target t.schema e x ≡ x)) (asked t).edges
    types_closed q =
        at_rest _ (asked t).edges (type_grows t formed) (are_edges t formed) q
        (λ e k. then_fixed weight (Ok t) (type_origin t.schema e) (type_target t.schema e) (origin_grows t formed e k)
        (target_grows t formed e k) x ok)

    pass_closed : pass t x ≡ x → Closed t x
    pass_closed q =
        let q1 = then_fixed weight (Ok t) (equate_all t)
        (λ y. unify_all t (type_all t (lift_all t (assert_all t y)))) equate_rises from_assert x ok q in
        let q2 = then_fixed weight (Ok t) (assert_all t) (λ y. unify_all t (type_all t (lift_all t y))) assert_rises from_lift x ok q1.1 in
        let q3 = then_fixed weight (Ok t) (lift_all t) (λ y. unify_all t (type_all t y)) lift_rises from_type x ok q2.1 in
        let q4 = then_fixed weight (Ok t) (type_all t) (unify_all t) type_rises unify_rises x ok q3.1 in
        record {
          ties =
              at_rest equate (ties t) (equate_grows t formed) (are_ties t formed) q1.0
              (λ f k e. merge_fixed t x ok f.left f.right k.0 k.1 k.2 e);
          members =
              at_rest assert (asked t).members (assert_grows t formed) (are_members t formed) q2.0
              (λ f k e. has_absorbed (set_of x f.node) (place f.class) f.class
              (add_fixed t x ok f.node (place f.class) k.1 e) (place_has f.class));
          raised = λ n h.
              raise_fixed t.schema formed.axioms (set_of x n) (set_small t x ok n h)
              (add_fixed t x ok n (raise t.schema (set_of x n)) h
              (upto_fixed weight (Ok t) (lift t.schema) (nodes t) (lift_grows t formed) x ok q3.0 n h));
          origins =
              all_zip (λ e k f A a. has_absorbed (set_of x e.origin) (domain t.schema e.attribute) A
              (add_fixed t x ok e.origin _ k.0 f.0) a)
              (asked t).edges (are_edges t formed) (types_closed q4.0);
          targets =
              all_zip
              (λ e k f A a. has_absorbed (set_of x e.target) (values t.schema (set_of x e.origin) e.attribute) A
              (add_fixed t x ok e.target _ k.1 f.1) a)
              (asked t).edges (are_edges t formed) (types_closed q4.0);
          singles =
              at_rest _ (asked t).edges (unify_all_lem t formed) (are_edges t formed) q4.1
              (λ e k q5. at_rest (unify t.schema e) (asked t).edges (λ f. unify_grows t formed e f k) (are_edges t formed) q5
              (λ f l. unify_fixed t formed e f k l x ok));
        }

  pub begin_ok : Ok t (begin t)
  unfolding begin rep_of
  begin_ok =
      let N = nodes t in
      let none : (n : ℕ) → n < N → get_or (replicate N zero) n zero ≡ zero = λ n h. get_or-replicate N n 0 0 h in
      let self : (n : ℕ) → n < N → get_or (numbers_from 0 N) n 0 ≡ n = λ n h. omega (arith, numbers_at 0 N n h) in
      record {
        reps = numbers_length 0 N;
        sets = length-replicate N 0;
        inside = λ n h. omega (arith, self n h);
        fixed = λ n h. ap (λ (m : ℕ). get_or (numbers_from 0 N) m 0) (self n h);
        small = λ n h. subst (λ (c : ℕ). c < 2 ^ t.schema.signature.classes) (sym (none n h))
            (pow_pos t.schema.signature.classes);
        same = λ I g fits n h. ap g (sym (self n h));
        sound = λ I g fits n h A a. absurd (has_none A (subst (λ (c : ℕ). So (has c A)) (none n h) a));
      }

  -- the machine's loop: a pass changes nothing of where it ends, and it ends where the weight stands still
  pub settled_next : (x : Prime) → Ok t x → settled t (pass t x) ≡ settled t x
  unfolding settled
  settled_next x ok = settle_next weight (Ok t) (pass t) pass_grows (bound t) (weight_bound t) x ok

  pub settled_stop : (x : Prime) → Ok t x → weight (pass t x) ≡ weight x → settled t x ≡ x
  unfolding settled
  settled_stop x ok e = settle_stop weight (Ok t) (pass t) pass_grows (bound t) (weight_bound t) x ok e

  pub primary_ok : Ok t (primary t)
  unfolding primary settled
  primary_ok = settle_ok weight (Ok t) (pass t) pass_grows (suc (bound t)) (begin t) begin_ok

  pub primary_closed : Closed t (primary t)
  unfolding primary settled
  primary_closed = pass_closed (primary t) primary_ok
      (settle_fixed weight (Ok t) (pass t) pass_grows (bound t) (weight_bound t) (begin t) begin_ok)
