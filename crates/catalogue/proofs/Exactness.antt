-- What the order of an accepted catalogue means (specs/Exact): by reflexivity and transitivity of Held (SubsumptionLaws of
-- records) and the laws of the order (OrderLaws).
use Prim.Native.Nat.{ℕ, ◌≤◌, ◌<◌}
use mathlib.Core.Bool.{Bool, So}
use mathlib.Core.List.{List}
use mathlib.Core.Path.{◌≡◌, sym, ◌∙◌}
use native.Mathlib.Omega.{arith}
use lib.ListN.{get_or}
use Rattle.std.specs.Prelude.{None, Result, Ok}
use Rattle.records.specs.declared.refusal.Refusal.{Refusal}
use Rattle.records.specs.Finite.{bit}
use Rattle.records.specs.Layout.{max_views}
use Rattle.records.specs.SchemaRecord.{schema_of}
use Rattle.records.specs.CatalogueRecord.{views}
use Rattle.records.proofs.General.FiniteLaws.{least_le}
use Rattle.records.proofs.SubsumptionLaws.{held_self}
use Rattle.catalogue.specs.declared.arrange.Order.{Order}
use Rattle.catalogue.specs.Order.{groups, lowest, in_group}
use Rattle.catalogue.specs.Answers.{refusal_of, TellsEach, Arranged, Ordering}
use Rattle.catalogue.specs.Exact.{InOrder}
use Rattle.catalogue.proofs.SetLaws.{row_inside}
use Rattle.catalogue.proofs.OrderLaws.{group_inside, group_some, group_of, group_one, group_class, narrow_first}
use Rattle.catalogue.proofs.KnownLaws.{view, HeldBy, by_two, few_views}
use Rattle.catalogue.proofs.AnswerLaws.{accepted_of}

groups_le : (n : ℕ) (held : ℕ → ℕ → Bool) → groups n held ≤ n
unfolding groups
groups_le n held = least_le _ n

module _ (schema w : List ℕ) where
  abbrev n : ℕ
  n = views w

  module _ (held : ℕ → ℕ → Bool) (tells : TellsEach schema w held) (o : Order) (arranged : Arranged n held o) (few : n ≤ max_views) where
    abbrev InGroup : ℕ → ℕ → Type 0
    InGroup k i = So (bit (get_or o.groups k 0) i)

    told : (i j : ℕ) → i < n → j < n → So (held i j) → HeldBy schema w i j
    told i j h k = (tells i j h k).is_held.0

    test : (i j : ℕ) → i < n → j < n → HeldBy schema w i j → So (held i j)
    test i j h k = (tells i j h k).is_held.1

    self : (i : ℕ) → i < n → So (held i i)
    self i h = test i i h h (held_self (schema_of schema) (view schema w i))

    through : (i j k : ℕ) → i < n → j < n → k < n → So (held i j) → So (held j k) → So (held i k)
    through i j k a b c h g = test i k a c (by_two schema w i j k (told i j a b h) (told j k b c g))

    -- what the words of the answer say is what the definition says
    group_test : (k i : ℕ) → InGroup k i → So (in_group n held k i)
    group_test k i h = sym (arranged.sets.digits k i (row_inside o.groups k i arranged.sets.size h)) ∙ h

    group_word : (k i : ℕ) → So (in_group n held k i) → InGroup k i
    group_word k i h = arranged.sets.digits k i (omega (arith, few, groups_le n held, (group_inside n held k i h).0)) ∙ h

    inside : (k i : ℕ) → InGroup k i → (k < groups n held) × (i < n)
    inside k i h = group_inside n held k i (group_test k i h)

    exact : InOrder n (HeldBy schema w) o.count InGroup
    exact =
        record {
          self = λ i h. held_self (schema_of schema) (view schema w i);
          through = λ i j k a b c. by_two schema w i j k;
          inside = λ k i h. rw arranged.number (inside k i h);
          some = λ k h. (lowest n held k, group_word k _ (group_some n held self through k (rw arranged.number at h)));
          one = λ i h.
              let (k, g) = group_of n held self through i h in
              (k, group_word k i g, λ l x. group_one n held self through k l i g (group_test l i x));
          classes = λ k i j g h.
              let a = (inside k i g).1 in
              let c = group_class n held self through k i j (group_test k i g) h in (
                λ x. let b = c.0 (group_test k j x) in (told i j a h b.0, told j i h a b.1),
                λ x. group_word k j (c.1 (test i j a h x.0, test j i h a x.1)),
              );
          narrow_first = λ k l i j g x h m.
              let a = (inside k i g).1 in
              let b = (inside l j x).1 in
              narrow_first n held self through k l i j (group_test k i g) (group_test l j x) (test i j a b h) (λ y. m (told j i b a y));
        }

  -- for any words that are not refused
  pub order_exact : (answer : Result Order Refusal) → Ordering schema w answer → refusal_of schema w ≡ None
      → (o : Order) × (answer ≡ Ok o) × InOrder n (HeldBy schema w) o.count (λ k i. So (bit (get_or o.groups k 0) i))
  order_exact answer o z =
      let (order, is, held, tells, arranged) = o.decided z in
      (order, is, exact held tells order arranged (few_views schema w (accepted_of schema w z)))
