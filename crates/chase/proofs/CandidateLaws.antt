-- The candidate before it is closed holds every axiom but for values that are lacking (candidate_chased): an induction-free
-- check, kind by kind, over the query's pairs and the pairs from makers to made objects.
use Prim.Native.Nat.{ℕ, suc, ◌-◌, ◌≤◌, ◌<◌}
use native.Mathlib.Omega.{arith}
use native.Mathlib.Decide.{dec_lt}
use mathlib.Core.Bool.{Bool, true, false, So, cond, ◌&&◌, ◌||◌, false≢true}
use mathlib.Core.Logic.{◌⊎◌, inl, inr, ⊎_elim}
use mathlib.Core.Path.{◌≡◌, refl, sym, ap, subst, subst₂, ◌∙◌}
use mathlib.Core.List.{List, [], ◌∷◌}
use lib.Dec.{eqb, ltb}
use borrow.Author.Tests.{eqb-true, eq-eqb, ne_eqb, lt-ltb, le-ltb, ltb-true}
use Rattle.records.specs.declared.schema.Axiom.{Axiom}
use Rattle.records.specs.declared.schema.Axiom.TheVariants.{Subclass, Typing, Necessary, Single, Relates}
use Rattle.records.specs.Finite.{any}
use Rattle.records.specs.State.{State, Related, Some}
use Rattle.records.specs.Schema.{Schema}
use Rattle.records.specs.Helpers.Loops.{any_of}
use Rattle.chase.specs.ClassSet.{has, full}
use Rattle.chase.specs.Axioms.{domain, values, needs, is_single, raise}
use Rattle.chase.specs.Facts.{Edge}
use Rattle.chase.specs.Task.{Task, WellFormed}
use Rattle.chase.specs.Ground.{Ground, set_at}
use Rattle.chase.specs.Forest.{Forest, bare, grow, size, kid, asks, classes_of, lacks}
use Rattle.chase.specs.Candidate.{links, lacking, objects, chased}
use Rattle.records.proofs.General.BoolLaws.{and_both, and_parts, or_left, or_right, or_true_cases, met, cond_elim}
use Rattle.records.proofs.General.AllLaws.{All, all_map}
use Rattle.records.proofs.General.FiniteLaws.{any_of_lem}
use Rattle.chase.proofs.ClassSetLaws.{full_has}
use Rattle.chase.proofs.AxiomLaws.{Of, Small, needs_is, needs_of, single_of, domain_of, range_of, typing_of, declared_as}
use Rattle.chase.proofs.ClosureLaws.{full_small, full_fixed, subclass_closed, image_small, image_fixed, image_values, needs_domain}
use Rattle.chase.proofs.ClosingLaws.{Chased}
use Rattle.chase.proofs.GroundLaws.{Grounded}
use Rattle.chase.proofs.ForestLaws.{Grown, ground_size, lacks_parts, Child, kid_inside, child}

-- an entry that passes the test, with what holds of each entry
any_find : {A : Type 0} (test : A → Bool) (X : A → Type 0) (l : List A) → All X l → So (any_of test l) → (a : A) × So (test a) × X a
unfolding any_of
any_find test X [] h t = absurd (false≢true t)
any_find test X (a ∷ l) h t = ⊎_elim (λ y. (a, y, h.0)) (any_find test X l h.1) (or_true_cases (test a) (any_of test l) t)

-- .. and another test that such an entry passes
any_also : {A : Type 0} (test also : A → Bool) → ((a : A) → So (test a) → So (also a)) → (l : List A) → So (any_of test l)
    → So (any_of also l)
unfolding any_of
any_also test also f [] t = absurd (false≢true t)
any_also test also f (a ∷ l) t =
    ⊎_elim (λ y. or_left (also a) (any_of also l) (f a y)) (λ y. or_right (also a) (any_of also l) (any_also test also f l y))
    (or_true_cases (test a) (any_of test l) t)

-- each entry is among the entries
any_self : {A : Type 0} (test : A → A → Bool) → ((a : A) → So (test a a)) → (l : List A) → All (λ a. So (any_of (test a) l)) l
unfolding any_of
any_self test r [] = tt
any_self test r (a ∷ l) = (
  or_left (test a a) (any_of (test a) l) (r a),
  all_map (λ b h. or_right (test b a) (any_of (test b) l) h) l (any_self test r l),
)

-- the pairs of the query
module _ (G : Ground) where
  -- edge f is the pair (d, e) of P
  is_link : ℕ → ℕ → ℕ → Edge → Bool
  is_link P d e f = eqb f.attribute P && eqb f.origin d && eqb f.target e

  pub link_elim : (X : ℕ → ℕ → ℕ → Type 0) → All (λ f. X f.attribute f.origin f.target) G.edges → (P d e : ℕ)
      → So (links G P d e)
      → X P d e
  unfolding links is_link
  link_elim X h P d e l =
      let k = any_find (is_link P d e) _ G.edges h l in
      let f = k.0 in
      let u = and_parts (eqb f.attribute P && eqb f.origin d) (eqb f.target e) k.1 in
      let v = and_parts (eqb f.attribute P) (eqb f.origin d) u.0 in
      subst (X P d) (eqb-true f.target e u.1)
      (subst₂ (λ (Q i : ℕ). X Q i f.target) (eqb-true f.attribute P v.0) (eqb-true f.origin d v.1) k.2)

  pub edges_linked : All (λ f. So (links G f.attribute f.origin f.target)) G.edges
  unfolding links is_link
  edges_linked =
      any_self (λ f g. is_link f.attribute f.origin f.target g)
      (λ f. and_both _ _ (and_both _ _ (eq-eqb f.attribute f.attribute refl) (eq-eqb f.origin f.origin refl))
      (eq-eqb f.target f.target refl))
      G.edges

  link_asks : (P d e : ℕ) → So (links G P d e) → So (asks G P d)
  unfolding links asks is_link
  link_asks P d e =
      any_also (is_link P d e) (λ f. eqb f.attribute P && eqb f.origin d)
      (λ f h. (and_parts (eqb f.attribute P && eqb f.origin d) (eqb f.target e) h).0) G.edges

  asks_link : (P d : ℕ) → So (asks G P d) → (e : ℕ) × So (links G P d e)
  unfolding asks
  asks_link P d h =
      let k = any_find (λ f. eqb f.attribute P && eqb f.origin d) _ G.edges edges_linked h in
      let f = k.0 in
      let u = and_parts (eqb f.attribute P) (eqb f.origin d) k.1 in (
        f.target,
        subst₂ (λ (Q i : ℕ). So (links G Q i f.target)) (eqb-true f.attribute P u.0) (eqb-true f.origin d u.1)
            k.2,
      )

-- the classes of the ground's objects are those of the ground
pub ground_classes : (S : Schema) (G : Ground) (T : Forest) (d : ℕ) → d < G.objects → classes_of S G T d ≡ set_at G d
unfolding classes_of
ground_classes S G bare d h = ap (λ (b : Bool). cond b (set_at G d) (full S.signature.classes)) (lt-ltb d G.objects h)
ground_classes S G (grow T m R c) d h =
    ap (λ (b : Bool). cond b c (classes_of S G T d)) (ne_eqb d (size G T) (omega (arith, ground_size G T))) ∙ ground_classes S G T d h

-- from the size on they are all classes
pub full_beyond : (S : Schema) (G : Ground) (T : Forest) (d : ℕ) → size G T ≤ d → classes_of S G T d ≡ full S.signature.classes
unfolding classes_of size
full_beyond S G bare d h = ap (λ (b : Bool). cond b (set_at G d) (full S.signature.classes)) (le-ltb d G.objects h)
full_beyond S G (grow T m P c) d h =
    ap (λ (b : Bool). cond b c (classes_of S G T d)) (ne_eqb d (size G T) (omega arith)) ∙ full_beyond S G T d (omega arith)

-- a pair of the candidate is one of the query, or leads to a made value
pub pair_is : (S : Schema) (G : Ground) (T : Forest) (P d e : ℕ) → Related (chased S G T) P d e
    → So (links G P d e) ⊎ (kid G T P d ≡ suc e)
pair_is S G T P d e r = ⊎_elim inl (λ k. inr (eqb-true (kid G T P d) (suc e) k)) (or_true_cases (links G P d e) (eqb (kid G T P d) (suc e)) r)

pub room : (S : Schema) (G : Ground) (T : Forest) → size G T ≤ objects S G T
unfolding objects
room S G T = cond_elim (λ n. size G T ≤ n) (lacking S G T) (λ _. omega arith) (λ _. omega arith)

pub link_inside : (t : Task) (G : Ground) (node : ℕ → ℕ) → Grounded t G node → (P d e : ℕ) → So (links G P d e)
    → (d < G.objects) × (e < G.objects)
link_inside t G node grounded = link_elim G (λ P d e. (d < G.objects) × (e < G.objects)) grounded.edges

module _ (t : Task) (formed : WellFormed t) (G : Ground) (node : ℕ → ℕ) (T : Forest) (grounded : Grounded t G node)
    (valid : Grown t.schema G bare T) where
  abbrev S : Schema
  S = t.schema

  abbrev F : State
  F = chased t.schema G T

  abbrev u : ℕ
  u = size G T

  abbrev cls : ℕ → ℕ
  cls = classes_of t.schema G T

  -- every class set is small and closed
  set_closed : (d : ℕ) → Small S (cls d) × (raise S (cls d) ≡ cls d)
  set_closed d =
      elim (dec_lt d G.objects) [
        | yes y ↦ subst Closed (sym (ground_classes S G T d y)) (grounded.small d y, grounded.raised d y)
        | no n ↦
            elim (dec_lt d u) [
              | yes y ↦
                  let c = child S G valid d (omega arith) y in
                  subst Closed (sym c.classes) (
                    image_small S formed.axioms (cls c.maker) c.attribute,
                    image_fixed S formed.axioms (cls c.maker)
                        c.attribute,
                  )
              | no k ↦ subst Closed (sym (full_beyond S G T d (omega arith)))
                  (full_small S formed.axioms, full_fixed S formed.axioms)
            ]
      ]
    where
      Closed : ℕ → Type 0
      Closed c = Small S c × (raise S c ≡ c)

  -- the closing object is in every declared class
  closing_has : (B : ℕ) → B < S.signature.classes → So (has (cls u) B)
  closing_has B h = subst (λ (c : ℕ). So (has c B)) (sym (full_beyond S G T u (omega arith))) (full_has S.signature.classes B h)

  link_cls : (P d e : ℕ) → So (links G P d e) → (cls d ≡ set_at G d) × (cls e ≡ set_at G e)
  link_cls P d e l =
      let h = link_inside t G node grounded P d e l in (ground_classes S G T d h.0, ground_classes S G T e h.1)

  -- of the pairs from makers
  kid_child : (P d e : ℕ) → kid G T P d ≡ suc e → (c : Child S G T e) × (d ≡ c.maker) × (P ≡ c.attribute)
  kid_child P d e q =
      let i = kid_inside S G valid P d e q in
      let c = child S G valid e i.0 i.1 in
      let o = c.only P d q in
      (c, o.0, o.1)

  -- a target has the classes of a value
  target_has : (P d e B : ℕ) → Related F P d e → So (has (values S (cls d) P) B) → So (has (cls e) B)
  target_has P d e B r v =
      ⊎_elim
      (λ l.
      let k = link_cls P d e l in
      subst (λ (c : ℕ). So (has c B)) (sym k.1)
      (link_elim G (λ P d e. (A : ℕ) → So (has (values S (set_at G d) P) A) → So (has (set_at G e) A)) grounded.targets P d e l B
      (subst (λ (c : ℕ). So (has (values S c P) B)) k.0 v)))
      (λ q.
      let k = kid_child P d e q in
      subst (λ (c : ℕ). So (has c B)) (sym k.0.classes)
      (image_values S formed.axioms (cls k.0.maker) k.0.attribute B
      (subst₂ (λ (i Q : ℕ). So (has (values S (cls i) Q) B)) k.1 k.2 v)))
      (pair_is S G T P d e r)

  -- an origin is in the domain, and so is an object that needs a value
  needs_has : (P d A : ℕ) → So (needs S (cls d) P) → So (has (domain S P) A) → So (has (cls d) A)
  needs_has P d A n h = needs_domain S formed.axioms (cls d) P A (set_closed d).0 (set_closed d).1 n h

  kid_needs : (P d e : ℕ) → kid G T P d ≡ suc e → So (needs S (cls d) P)
  kid_needs P d e q = let k = kid_child P d e q in subst₂ (λ (i Q : ℕ). So (needs S (cls i) Q)) (sym k.1) (sym k.2) k.0.needed

  origin_has : (P d e A : ℕ) → Related F P d e → So (has (domain S P) A) → So (has (cls d) A)
  origin_has P d e A r h =
      ⊎_elim
      (λ l.
      subst (λ (c : ℕ). So (has c A)) (sym (link_cls P d e l).0)
      (link_elim G (λ P d e. (A : ℕ) → So (has (domain S P) A) → So (has (set_at G d) A)) grounded.origins P d e l A h))
      (λ q. needs_has P d A (kid_needs P d e q) h)
      (pair_is S G T P d e r)

  -- an object that has a made value has no pair of the query
  kid_unasked : (P d e f : ℕ) → kid G T P d ≡ suc e → So (links G P d f) → ⊥
  kid_unasked P d e f q l =
      let k = kid_child P d e q in
      false≢true (sym k.0.unasked ∙ subst₂ (λ (i Q : ℕ). So (asks G Q i)) k.1 k.2 (link_asks G P d f l))

  one_value : (P d e f : ℕ) → So (is_single S (cls d) P) → Related F P d e → Related F P d f → e ≡ f
  one_value P d e f s r q =
      ⊎_elim
      (λ l.
      ⊎_elim
      (λ m.
      link_elim G (λ Q c g. P ≡ Q → d ≡ c → So (is_single S (set_at G d) P) → e ≡ g)
      (link_elim G (λ P d e. All (λ f. P ≡ f.attribute → d ≡ f.origin → So (is_single S (set_at G d) P) → e ≡ f.target)
      G.edges) grounded.singles P d e l)
      P d f m refl refl (subst (λ (c : ℕ). So (is_single S c P)) (link_cls P d e l).0 s))
      (λ k. absurd (kid_unasked P d f e k l)) (pair_is S G T P d f q))
      (λ k. ⊎_elim (λ m. absurd (kid_unasked P d e f k m)) (λ j. omega arith) (pair_is S G T P d f q))
      (pair_is S G T P d e r)

  lacks_none : (P d e : ℕ) → So (lacks S G T P d) → Related F P d e → ⊥
  lacks_none P d e h r =
      let k = lacks_parts S G T P d h in
      ⊎_elim (λ l. false≢true (sym k.1 ∙ link_asks G P d e l)) (λ q. omega (arith, k.2)) (pair_is S G T P d e r)

  -- what is needed is declared, so the closing object is there where it is asked for
  needs_declared : (P d : ℕ) → So (needs S (cls d) P) → P < S.signature.attributes
  needs_declared P d n = let x = needs_is S (cls d) P n in (declared_as S formed.axioms (Necessary x.0 P) x.2).1

  pub closing_room : (P d : ℕ) → d < F.size → So (lacks S G T P d) → u < F.size
  unfolding objects lacking
  closing_room P d h l =
      elim (dec_lt d u) [
        | yes y ↦
            let a = any_of_lem (λ P. lacks S G T P d) S.signature.attributes P (needs_declared P d (lacks_parts S G T P d l).0) l in
            let b : So (lacking S G T) = any_of_lem (λ d. any S.signature.attributes λ P. lacks S G T P d) u d y a in
            omega (arith, ap (λ (b : Bool). cond b (suc u) u) b)
        | no n ↦ omega arith
      ]

  -- a value that is needed is there or lacking
  value_or_lack : (P d : ℕ) → So (needs S (cls d) P) → (Some F λ e. Related F P d e) ⊎ So (lacks S G T P d)
  unfolding lacks
  value_or_lack P d n = go (lacks S G T P d) refl
    where
      go : (b : Bool) → lacks S G T P d ≡ b → (Some F λ e. Related F P d e) ⊎ So (lacks S G T P d)
      go true q = inr q
      go false q =
          inl
          (⊎_elim
          (λ a.
          let k = asks_link G P d a in (
            k.0,
            omega (arith, (link_inside t G node grounded P d k.0 k.1).1, ground_size G T, room S G T),
            or_left
                (links G P d k.0) (eqb (kid G T P d) (suc k.0)) k.1,
          ))
          (λ k.
          let e : ℕ = kid G T P d - 1 in
          let q : kid G T P d ≡ suc e = omega (arith, ltb-true 0 (kid G T P d) k) in (
            e,
            omega (arith, (kid_inside S G valid P d e q).1, room S G T),
            or_right (links G P d e) (eqb (kid G T P d) (suc e))
                (eq-eqb (kid G T P d) (suc e) q),
          ))
          (or_true_cases (asks G P d) (ltb 0 (kid G T P d)) (met (needs S (cls d) P) (asks G P d || ltb 0 (kid G T P d)) q n)))

  pub candidate_chased : (i : ℕ) → i < S.axioms → Chased F (lacks S G T) u (S.axiom_at i)
  candidate_chased i h = go (S.axiom_at i) (i, h, refl)
    where
      go : (x : Axiom) → Of S x → Chased F (lacks S G T) u x
      go (Subclass A B) x = λ d hd a. subclass_closed S formed.axioms (cls d) (set_closed d).0 (set_closed d).1 A B x a
      go (Typing A P B) x = (
        λ d hd a e he r. target_has P d e B r (typing_of S (cls d) A P B x a),
        closing_has B (declared_as S formed.axioms (Typing A P B) x).2,
      )
      go (Necessary A P) x = λ d hd a. value_or_lack P d (needs_of S (cls d) A P x a)
      go (Single A P) x = (
        λ d hd a e he r f hf s. one_value P d e f (single_of S (cls d) A P x a) r s,
        λ d hd l e he r. lacks_none P d e l r,
      )
      go (Relates P A B) x = (
        λ d hd e he r. (origin_has P d e A r (domain_of S P A B x), target_has P d e B r (range_of S (cls d) P A B x)),
        λ d hd l. needs_has P d A (lacks_parts S G T P d l).0 (domain_of S P A B x),
        closing_has B (declared_as S formed.axioms (Relates P A B) x).2,
      )
