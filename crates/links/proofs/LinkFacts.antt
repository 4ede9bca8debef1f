-- What the passes over the facts of an accepted state count is what the definitions count: no fact stands twice, so a link has one
-- fact, and facts are as many as those of each second object and of each first one.
use Prim.Native.Nat.{ℕ, ◌+◌, ◌≤◌, ◌<◌}
use mathlib.Core.Bool.{Bool, So, cond, ◌&&◌}
use mathlib.Core.List.{List}
use mathlib.Core.Logic.Iff
use mathlib.Core.Logic.{◌↔◌}
use mathlib.Core.Path.{◌≡◌, sym, ap, subst, ◌∙◌}
use native.Mathlib.Omega.{arith}
use lib.Dec.{eqb}
use lib.ListN.{get_or}
use Rattle.records.specs.declared.schema.Signature.{Signature}
use Rattle.records.specs.Finite.{any, count, sum}
use Rattle.records.specs.Concept.{Concept}
use Rattle.records.specs.Layout.{state_layout, entries, right_at, max_objects, attribute_kinds, fact_kinds}
use Rattle.records.specs.StateRecord.{objects, kind_at, object_at, says_pair, state_of}
use Rattle.records.specs.StateRefusal.{AcceptedState}
use Rattle.records.proofs.General.BoolLaws.{and_left, and_right, and_both, and_iff, and_three_iff, test_same}
use Rattle.records.proofs.General.FiniteLaws.{any_iff, count_same}
use Rattle.records.proofs.General.SumLaws.{sum_same, count_sum, count_keys, count_only}
use Rattle.records.proofs.AcceptedLaws.{passes_7, passes_9, objects_few, facts_few}
use Rattle.records.proofs.ExecutableLaws.{eqb_iff}
use Rattle.records.proofs.OrderLaws.{fact_once}
use Rattle.records.proofs.FactLaws.{pair_iff, object_inside, second_inside}
use Rattle.index.specs.BitSet.{bit_at}
use Rattle.index.proofs.KindLaws.{kinds_rise}
use Rattle.rows.specs.Selection.{Selection}
use Rattle.links.specs.Links.{links_by_first, links_by_second, firsts}
use Rattle.links.specs.Counts.{link_at, Tallied, Walkable}
use Rattle.evaluate.proofs.EvaluationLaws.{selected_bit}
use Rattle.links.proofs.LinkLaws.{links_agree}

module _ (s : Signature) (w : List ℕ) (ok : AcceptedState s w) (k : ℕ) (set : List ℕ) where
  -- fact i is the link from d to e
  abbrev is_link : ℕ → ℕ → ℕ → Bool
  is_link d e i = link_at w k set i && eqb (right_at state_layout w i) e && eqb (object_at w i) d

  link_iff : (d e i : ℕ) → So (is_link d e i) ↔ (((kind_at w i ≡ k) × So (bit_at set (object_at w i))) × (right_at state_layout w i ≡ e) × (object_at w i ≡ d))
  link_iff d e i = and_three_iff (and_iff (eqb_iff (kind_at w i) k) Iff.rfl) (eqb_iff (right_at state_layout w i) e) (eqb_iff (object_at w i) d)

  -- a link has one fact
  link_once : (d e : ℕ) → count (entries state_layout w) (is_link d e) ≡ cond (bit_at set d && says_pair w k d e) 1 0
  unfolding kind_at object_at
  link_once d e = count_only (is_link d e) (entries state_layout w) only ∙ ap (λ (b : Bool). cond b 1 0) (test_same _ _ to from)
    where
      only : (i j : ℕ) → i < entries state_layout w → j < entries state_layout w → So (is_link d e i) → So (is_link d e j) → i ≡ j
      only i j l m p q =
          let (a, r, o) = (link_iff d e i).0 p in
          let (b, u, v) = (link_iff d e j).0 q in
          fact_once w (passes_9 s w ok) i j l m (omega (arith, a.0, o, b.0, v)) (r ∙ sym u)

      to : So (any (entries state_layout w) (is_link d e)) → So (bit_at set d && says_pair w k d e)
      to h =
          let (i, l, (a, r, o)) = (any_iff (link_iff d e)).0 h in
          and_both (bit_at set d) _ (subst (λ (x : ℕ). So (bit_at set x)) o a.1) ((pair_iff w k d e).1 (i, l, (a.0, o, r)))

      from : So (bit_at set d && says_pair w k d e) → So (any (entries state_layout w) (is_link d e))
      from h =
          let (i, l, (a, o, r)) = (pair_iff w k d e).0 (and_right (bit_at set d) _ h) in
          (any_iff (link_iff d e)).1 (i, l, ((a, subst (λ (x : ℕ). So (bit_at set x)) (sym o) (and_left (bit_at set d) _ h)), r, o))

  -- those of one second object, first object by first object
  second_facts : (e : ℕ) → count (entries state_layout w) (λ i. link_at w k set i && eqb (right_at state_layout w i) e)
      ≡ count (objects w) (λ d. bit_at set d && says_pair w k d e)
  second_facts e =
      sym (count_keys (λ i. link_at w k set i && eqb (right_at state_layout w i) e) (object_at w) (objects w) (entries state_layout w) (λ i l p. object_inside s w ok i l))
      ∙ sum_same _ _ (objects w) (λ d l. link_once d e)
      ∙ sym (count_sum (λ d. bit_at set d && says_pair w k d e) (objects w))

pub walkable : (s : Signature) (w : List ℕ) → AcceptedState s w → (k : ℕ) → k < fact_kinds → Walkable w k
walkable s w ok k h =
    record {
      rise = kinds_rise s w ok;
      few = facts_few w (passes_7 s w ok);
      inside = λ i l. omega (arith, objects_few w (passes_7 s w ok), second_inside s w ok i l);
      kind = h;
    }

-- What the passes count, by the set that evaluation gives.

module _ (s : Signature) (w : List ℕ) (ok : AcceptedState s w) (C : Concept) (P : ℕ) (set : List ℕ) (z : Selection (state_of w) C set) where
  few : objects w ≤ max_objects
  few = objects_few w (passes_7 s w ok)

  -- the facts of one second object
  firsts_are : (e : ℕ) → count (entries state_layout w) (λ i. link_at w (attribute_kinds + P) set i && eqb (right_at state_layout w i) e) ≡ firsts (state_of w) C P e
  unfolding state_of
  firsts_are e =
      second_facts s w ok (attribute_kinds + P) set e
      ∙ count_same _ _ (objects w)
      (λ d l. ap (λ (b : Bool). b && says_pair w (attribute_kinds + P) d e) (selected_bit (state_of w) C set z (omega (arith, few)) d l))

  seconds_are : sum (objects w) (λ e. count (entries state_layout w) λ i. link_at w (attribute_kinds + P) set i && eqb (right_at state_layout w i) e) ≡ links_by_second (state_of w) C P
  unfolding state_of links_by_second
  seconds_are = sum_same _ _ (objects w) (λ e l. firsts_are e)

  pub counted_by_first : count (entries state_layout w) (link_at w (attribute_kinds + P) set) ≡ links_by_first (state_of w) C P
  counted_by_first =
      sym (count_keys (link_at w (attribute_kinds + P) set) (right_at state_layout w) (objects w) (entries state_layout w) (λ i l p. second_inside s w ok i l))
      ∙ seconds_are
      ∙ sym (links_agree (state_of w) C P)

  pub counted_by_second : (counts : List ℕ) → Tallied w (attribute_kinds + P) set (entries state_layout w) counts
      → sum (objects w) (λ e. get_or counts e 0) ≡ links_by_second (state_of w) C P
  counted_by_second counts t = sum_same _ _ (objects w) (λ e l. t.each e (omega (arith, few))) ∙ seconds_are
