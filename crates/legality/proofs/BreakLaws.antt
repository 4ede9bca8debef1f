-- An axiom is broken just where some object or some fact breaks it, kind by kind.
-- Membership is a bit of the index, and a pair is a fact; of two values at one object, some two stand next to each other.
use Prim.Native.Nat.{ℕ, ◌+◌, ◌<◌}
use mathlib.Core.Bool.{Bool, true, false, So, not, ◌&&◌, false≢true}
use mathlib.Core.List.{List}
use mathlib.Core.Path.{◌≡◌, refl, sym, ap, subst, ◌∙◌}
use native.Mathlib.Decide.{dec_lt}
use native.Mathlib.Omega.{arith}
use borrow.Author.Tests.{eq-eqb, eqb-true, not-false}
use Rattle.records.specs.declared.schema.Axiom.{Axiom}
use Rattle.records.specs.declared.schema.Axiom.TheVariants.{Subclass, Typing, Necessary, Single, Relates}
use Rattle.records.specs.declared.schema.Signature.{Signature}
use Rattle.records.specs.Finite.{any}
use Rattle.records.specs.Schema.{Holds}
use Rattle.records.specs.Layout.{state_layout, entries, right_at, attribute_kinds, fact_kinds}
use Rattle.records.specs.StateRecord.{objects, kind_at, object_at, says, state_of}
use Rattle.records.specs.StateRefusal.{AcceptedState}
use Rattle.records.proofs.General.BoolLaws.{and_both, and_map, and_three_map, not_both, false_of_not}
use Rattle.records.proofs.General.FiniteLaws.{any_none}
use Rattle.records.proofs.AcceptedLaws.{passes_7, objects_few}
use Rattle.records.proofs.FactLaws.{says_iff, PairFact, pair_iff, pair_of, object_inside, second_inside}
use Rattle.index.specs.Index.{Indexes}
use Rattle.index.proofs.IndexLaws.{index_says}
use Rattle.records.specs.Helpers.InRange.{AxiomInRange}
use Rattle.legality.specs.Breaks.{seen_at, is_pair, object_breaks, pair_breaks}
use Rattle.legality.proofs.FactLaws.{repeats_of, repeats_other}

-- where nothing is in a and outside b, what is in a is in b
implied : (a b : Bool) → (a && not b) ≡ false → So a → So b
implied true b e p = not-false b e
implied false b e p = absurd (false≢true p)

module _ (s : Signature) (w seen : List ℕ) (ok : AcceptedState s w) (z : Indexes w seen) where
  seen_is : (k d : ℕ) → k < fact_kinds → d < objects w → says w k d ≡ seen_at seen k d
  seen_is k d l m = index_says z k d l (omega (arith, objects_few w (passes_7 s w ok)))

  -- of the first object of a fact
  first_seen : (k f : ℕ) → k < fact_kinds → f < entries state_layout w → says w k (object_at w f) ≡ seen_at seen k (object_at w f)
  first_seen k f l m = seen_is k (object_at w f) l (object_inside s w ok f m)

  -- An object that breaks an axiom.
  pub object_broken : (x : Axiom) → AxiomInRange x → (d : ℕ) → d < objects w → So (object_breaks seen x d) → Holds (state_of w) x → ⊥
  unfolding state_of
  object_broken (Subclass A B) n d l t h =
      let p = and_map {b = not (seen_at seen B d)} (λ u. seen_is A d (omega arith) l ∙ u) (λ u. seen_is B d (omega arith) l ∙ false_of_not _ u) t in
      not_both (says w B d) (h d l p.0) p.1
  object_broken (Typing A P B) n d l t h = false≢true t
  object_broken (Necessary A P) n d l t h =
      let p =
      and_map {b = not (seen_at seen (attribute_kinds + P) d)} (λ u. seen_is A d (omega arith) l ∙ u)
      (λ u. seen_is (attribute_kinds + P) d (omega arith) l ∙ false_of_not _ u) t
      in
      let v = h d l p.0 in
      let f = (pair_iff w (attribute_kinds + P) d v.0).0 v.2 in
      not_both (says w (attribute_kinds + P) d) ((says_iff w (attribute_kinds + P) d).1 (f.0, f.1, (f.2.0, f.2.1))) p.1
  object_broken (Single A P) n d l t h = false≢true t
  object_broken (Relates P A B) n d l t h = false≢true t

  -- A fact that breaks an axiom.
  pub pair_broken : (x : Axiom) → AxiomInRange x → (f : ℕ) → f < entries state_layout w → So (pair_breaks w seen x f) → Holds (state_of w) x → ⊥
  unfolding state_of
  pair_broken (Subclass A B) n f l t h = false≢true t
  pair_broken (Typing A P B) n f l t h =
      let p =
      and_three_map {c = not (seen_at seen B (right_at state_layout w f))} (eqb-true (kind_at w f) (attribute_kinds + P))
      (λ u. first_seen A f (omega arith) l ∙ u) (false_of_not _) t
      in
      let r = second_inside s w ok f l in
      not_both (says w B (right_at state_layout w f))
      (h (object_at w f) (object_inside s w ok f l) p.1 (right_at state_layout w f) r (pair_of w (attribute_kinds + P) f l p.0))
      (seen_is B (right_at state_layout w f) (omega arith) r ∙ p.2)
  pair_broken (Necessary A P) n f l t h = false≢true t
  pair_broken (Single A P) n f l t h =
      let p = and_three_map (eqb-true (kind_at w f) (attribute_kinds + P)) (λ u. first_seen A f (omega arith) l ∙ u) (repeats_other s w ok f l) t in
      let g = p.2 in
      let same =
      h (object_at w f) (object_inside s w ok f l) p.1
      (right_at state_layout w f) (second_inside s w ok f l) (pair_of w (attribute_kinds + P) f l p.0)
      (right_at state_layout w g.0) (second_inside s w ok g.0 g.1)
      ((pair_iff w (attribute_kinds + P) (object_at w f) (right_at state_layout w g.0)).1 (g.0, g.1, (g.2.0 ∙ p.0, g.2.1, refl)))
      in
      omega (arith, same, g.2.2)
  pair_broken (Relates P A B) n f l t h =
      let p =
      and_map {b = not (seen_at seen A (object_at w f) && seen_at seen B (right_at state_layout w f))} (eqb-true (kind_at w f) (attribute_kinds + P))
      (false_of_not _) t
      in
      let r = second_inside s w ok f l in
      let q = h (object_at w f) (object_inside s w ok f l) (right_at state_layout w f) r (pair_of w (attribute_kinds + P) f l p.0) in
      not_both (seen_at seen A (object_at w f) && seen_at seen B (right_at state_layout w f))
      (and_both _ _ (sym (first_seen A f (omega arith) l) ∙ q.0) (sym (seen_is B (right_at state_layout w f) (omega arith) r) ∙ q.1))
      p.1

  -- An axiom that none breaks.
  pub unbroken : (x : Axiom) → AxiomInRange x → any (objects w) (object_breaks seen x) ≡ false → any (entries state_layout w) (pair_breaks w seen x) ≡ false → Holds (state_of w) x
  unfolding state_of
  unbroken (Subclass A B) n o q = λ d l p.
      seen_is B d (omega arith) l
      ∙ implied (seen_at seen A d) (seen_at seen B d) (any_none _ (objects w) o d l) (sym (seen_is A d (omega arith) l) ∙ p)
  unbroken (Typing A P B) n o q = λ d l p e m r.
      let f = (pair_iff w (attribute_kinds + P) d e).0 r in
      subst (λ (v : ℕ). So (says w B v)) f.2.2 (typed f.0 f.1 f.2.0 (subst (λ (v : ℕ). So (says w A v)) (sym f.2.1) p))
    where
      typed : (f : ℕ) → f < entries state_layout w → kind_at w f ≡ attribute_kinds + P → So (says w A (object_at w f)) → So (says w B (right_at state_layout w f))
      typed f l k p =
          seen_is B (right_at state_layout w f) (omega arith) (second_inside s w ok f l)
          ∙ implied (is_pair w P f && seen_at seen A (object_at w f)) (seen_at seen B (right_at state_layout w f)) (any_none _ (entries state_layout w) q f l)
          (and_both _ _ (eq-eqb (kind_at w f) (attribute_kinds + P) k) (sym (first_seen A f (omega arith) l) ∙ p))
  unbroken (Necessary A P) n o q = λ d l p.
      let v : So (says w (attribute_kinds + P) d) =
      seen_is (attribute_kinds + P) d (omega arith) l
      ∙ implied (seen_at seen A d) (seen_at seen (attribute_kinds + P) d) (any_none _ (objects w) o d l) (sym (seen_is A d (omega arith) l) ∙ p)
      in
      let f = (says_iff w (attribute_kinds + P) d).0 v in (
        right_at state_layout w f.0,
        second_inside s w ok f.0 f.1,
        (pair_iff w (attribute_kinds + P) d (right_at state_layout w f.0)).1 (f.0, f.1, (f.2.0, f.2.1, refl)),
      )
  unbroken (Single A P) n o q = λ d l p e m r e' m' r'.
      one d e e' p ((pair_iff w (attribute_kinds + P) d e).0 r) ((pair_iff w (attribute_kinds + P) d e').0 r')
    where
      later : (f g : ℕ) → f < g → g < entries state_layout w → kind_at w f ≡ attribute_kinds + P → kind_at w g ≡ attribute_kinds + P → object_at w f ≡ object_at w g → So (says w A (object_at w g)) → ⊥
      later f g m l a b c p =
          not_both (pair_breaks w seen (Single A P) g)
          (and_both _ _ (and_both _ _ (eq-eqb (kind_at w g) (attribute_kinds + P) b) (sym (first_seen A g (omega arith) l) ∙ p))
          (repeats_of s w ok f g m l (a ∙ sym b) c))
          (any_none _ (entries state_layout w) q g l)

      one : (d e e' : ℕ) → So (says w A d) → PairFact w (attribute_kinds + P) d e → PairFact w (attribute_kinds + P) d e' → e ≡ e'
      one d e e' p f g = pick (dec_lt f.0 g.0) (dec_lt g.0 f.0)
        where
          pick : Dec (f.0 < g.0) → Dec (g.0 < f.0) → e ≡ e'
          pick (yes m) t =
              absurd (later f.0 g.0 m g.1 f.2.0 g.2.0 (f.2.1 ∙ sym g.2.1) (subst (λ (v : ℕ). So (says w A v)) (sym g.2.1) p))
          pick (no h) (yes m) =
              absurd (later g.0 f.0 m f.1 g.2.0 f.2.0 (g.2.1 ∙ sym f.2.1) (subst (λ (v : ℕ). So (says w A v)) (sym f.2.1) p))
          pick (no h) (no m) = sym f.2.2 ∙ ap (right_at state_layout w) (omega arith) ∙ g.2.2
  unbroken (Relates P A B) n o q = λ d l e m r.
      let f = (pair_iff w (attribute_kinds + P) d e).0 r in
      let p = related f.0 f.1 f.2.0 in
      (subst (λ (v : ℕ). So (says w A v)) f.2.1 p.0, subst (λ (v : ℕ). So (says w B v)) f.2.2 p.1)
    where
      related : (f : ℕ) → f < entries state_layout w → kind_at w f ≡ attribute_kinds + P → So (says w A (object_at w f)) × So (says w B (right_at state_layout w f))
      related f l k =
          and_map (λ u. first_seen A f (omega arith) l ∙ u) (λ u. seen_is B (right_at state_layout w f) (omega arith) (second_inside s w ok f l) ∙ u)
          (implied (is_pair w P f) (seen_at seen A (object_at w f) && seen_at seen B (right_at state_layout w f)) (any_none _ (entries state_layout w) q f l) (eq-eqb (kind_at w f) (attribute_kinds + P) k))
