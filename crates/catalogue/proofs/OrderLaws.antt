-- The groups of a catalogue (Order.antt), where being held is reflexive and transitive: each view is in just one, a group is the views
-- that hold each other, and a narrower group comes before a wider one. While a view is to come some group is next, since a finite order
-- has a least element; and each group takes its lowest view at least, so that n groups leave none.
use Prim.Native.Nat.{ℕ, zero, suc, ◌+◌, ◌≤◌, ◌<◌}
use mathlib.Core.Bool.{Bool, true, false, So, cond, not, ◌&&◌, Bool-discrete, true≢false, false≢true}
use mathlib.Core.Path.{◌≡◌, refl, subst}
use mathlib.Core.Logic.{◌↔◌}
use native.Mathlib.Decide.{dec_lt, le_ind}
use native.Mathlib.Omega.{arith}
use lib.Dec.{eqb, ltb}
use borrow.Author.Tests.{ltb-true, lt-ltb, eqb-true, eqb-false}
use Rattle.records.specs.Finite.{any, count}
use Rattle.records.proofs.General.BoolLaws.{and_left, and_right, and_both, and_parts, false_of, not_both, met}
use Rattle.records.proofs.General.FiniteLaws.{any_of_lem, any_found, count_le, count_zero, least_le, least_passes, least_first}
use Rattle.records.proofs.General.CountLaws.{count_lt}
use Rattle.catalogue.specs.Order.{together, narrower, ready, next, to_come, lowest, groups, in_group}

-- what it says that one test passes and another does not
but_not : (a b : Bool) → So (a && not b) ↔ (So a × (So b → ⊥))
but_not true true = (λ e. absurd (false≢true e), λ p. absurd (p.1 refl))
but_not true false = (λ e. (refl, false≢true), λ p. refl)
but_not false b = (λ e. absurd (false≢true e), λ p. absurd (false≢true p.0))

-- Where g passes all that f passes, those that pass g are those that pass f and those that pass g alone.

one_more : (a b : Bool) (x y z : ℕ) → (So a → So b) → y ≡ x + z → cond b (suc y) y ≡ cond a (suc x) x + cond (b && not a) (suc z) z
one_more true true x y z h e = omega arith
one_more true false x y z h e = absurd (false≢true (h refl))
one_more false true x y z h e = omega arith
one_more false false x y z h e = e

count_split : (f g : ℕ → Bool) (n : ℕ) → ((i : ℕ) → i < n → So (f i) → So (g i))
    → count n g ≡ count n f + count n (λ i. g i && not (f i))
unfolding count
count_split f g zero h = refl
count_split f g (suc n) h = one_more (f n) (g n) _ _ _ (h n (omega arith)) (count_split f g n (λ i l. h i (omega arith)))

-- .. so fewer pass f, where some number passes g alone
count_fewer : (f g : ℕ → Bool) (n i : ℕ) → ((j : ℕ) → j < n → So (f j) → So (g j)) → i < n → So (g i) → (So (f i) → ⊥)
    → count n f < count n g
count_fewer f g n i h l p d =
    omega (arith, count_split f g n h, count_lt (λ j. g j && not (f j)) n i l ((but_not (g i) (f i)).1 (p, d)))

module _ (n : ℕ) (held : ℕ → ℕ → Bool) where
  -- view j is to come and narrower than view i
  abbrev under : (ℕ → Bool) → ℕ → ℕ → Bool
  under rest i j = rest j && narrower held j i

  ready_iff : (rest : ℕ → Bool) (i : ℕ) → So (ready n held rest i) ↔ (So (rest i) × (So (any n (under rest i)) → ⊥))
  unfolding ready
  ready_iff rest i = but_not (rest i) (any n (under rest i))

  lowest_below : (k : ℕ) → k < groups n held → lowest n held k < n
  unfolding groups next
  lowest_below k h =
      let some : ¬ (lowest n held k ≡ n) = eqb-false (lowest n held k) n (least_first (λ j. eqb (lowest n held j) n) n k h) in
      omega (arith, least_le (ready n held (to_come n held k)) n)

  lowest_ready : (k : ℕ) → k < groups n held
      → So (to_come n held k (lowest n held k)) × (So (any n (under (to_come n held k) (lowest n held k))) → ⊥)
  unfolding next
  lowest_ready k h = (ready_iff (to_come n held k) (lowest n held k)).0 (least_passes (ready n held (to_come n held k)) n (lowest_below k h))

  -- a view to come was to come before
  to_come_before : (k l i : ℕ) → k ≤ l → So (to_come n held l i) → So (to_come n held k i)
  unfolding to_come
  to_come_before k l i h =
      le_ind {n = k} (λ m. So (to_come n held m i) → So (to_come n held k i)) (λ p. p) (λ m _ f p. f (and_left (to_come n held m i) _ p)) l h

  -- .. and a view of a group is not after it
  gone : (k i : ℕ) → So (together held (lowest n held k) i) → So (to_come n held (suc k) i) → ⊥
  unfolding to_come
  gone k i t p = ((but_not (to_come n held k i) (together held (lowest n held k) i)).0 p).1 t

  -- A later group's lowest view is to come after an earlier group: were it held by that one's, it would be in that group or narrower.
  not_held_before : (k l : ℕ) → k < l → l < groups n held → So (held (lowest n held l) (lowest n held k)) → ⊥
  not_held_before k l h m p =
      let low = lowest n held k in
      let late = lowest n held l in
      let after : So (to_come n held (suc k) late) = to_come_before (suc k) l late h (lowest_ready l m).0 in
      (lowest_ready k (omega arith)).1
      (any_of_lem (under (to_come n held k) low) n late (lowest_below l m)
      (and_both _ _ (to_come_before k (suc k) late (omega arith) after)
      ((but_not (held late low) (held low late)).1 (p, λ q. gone k late (and_both _ _ q p) after))))

  -- what the test for view i in group k says
  record Member (k i : ℕ) : Type 0 where
    group : k < groups n held
    view : i < n
    holds : So (held (lowest n held k) i)
    is_held : So (held i (lowest n held k))

  member : (k i : ℕ) → So (in_group n held k i) → Member k i
  member k i p =
      let (a, q) = and_parts (ltb k (groups n held)) _ p in
      let (b, r) = and_parts (ltb i n) _ q in
      let (c, d) = and_parts (held (lowest n held k) i) (held i (lowest n held k)) r in
      record { group = ltb-true k (groups n held) a; view = ltb-true i n b; holds = c; is_held = d }

  is_in_lem : (k i : ℕ) → k < groups n held → i < n → So (together held (lowest n held k) i) → So (in_group n held k i)
  is_in_lem k i h l t = and_both _ _ (lt-ltb k (groups n held) h) (and_both _ _ (lt-ltb i n l) t)

  pub group_inside : (k i : ℕ) → So (in_group n held k i) → (k < groups n held) × (i < n)
  group_inside k i p = let m = member k i p in (m.group, m.view)

  -- a view that is no longer to come is in a group
  taken : (k i : ℕ) → k ≤ groups n held → i < n → to_come n held k i ≡ false → (l : ℕ) × So (in_group n held l i)
  unfolding to_come
  taken zero i h l e = absurd (true≢false e)
  taken (suc k) i h l e =
      elim (Bool-discrete (to_come n held k i) true) [
        | yes p ↦ (k, is_in_lem k i h l (met (to_come n held k i) (together held (lowest n held k) i) e p))
        | no d ↦ taken k i (omega arith) l (false_of _ d)
      ]

  module _ (self : (i : ℕ) → i < n → So (held i i))
      (through : (i j k : ℕ) → i < n → j < n → k < n → So (held i j) → So (held j k) → So (held i k)) where
    narrower_through : (i j k : ℕ) → i < n → j < n → k < n → So (narrower held i j) → So (narrower held j k) → So (narrower held i k)
    narrower_through i j k l m o p q =
        let (a, b) = (but_not (held i j) (held j i)).0 p in
        let c = and_left (held j k) _ q in
        (but_not (held i k) (held k i)).1 (through i j k l m o a c, λ e. b (through j k i m o l c e))

    -- fewer views are under j than under i, where j is one of these
    fewer_under : (rest : ℕ → Bool) (i j : ℕ) → i < n → j < n → So (under rest i j) → count n (under rest j) < count n (under rest i)
    fewer_under rest i j l m p =
        count_fewer (under rest j) (under rest i) n j
        (λ k o q. let (r, s) = and_parts (rest k) _ q in and_both _ _ r (narrower_through k j i o m l s (and_right (rest j) _ p))) m p
        (λ q. let (a, b) = (but_not (held j j) (held j j)).0 (and_right (rest j) _ q) in b a)

    -- .. so that steps from a view to one under it end, at a view that is ready
    next_within : (fuel : ℕ) (rest : ℕ → Bool) (i : ℕ) → i < n → So (rest i) → count n (under rest i) < fuel → next n held rest < n
    unfolding next
    next_within zero rest i l p h = absurd (omega arith)
    next_within (suc fuel) rest i l p h =
        elim (Bool-discrete (any n (under rest i)) true) [
          | yes e ↦
              let (j, m, q) = any_found (under rest i) n e in
              next_within fuel rest j m (and_left (rest j) _ q) (omega (arith, fewer_under rest i j l m q))
          | no d ↦
              let first : ¬ (i < next n held rest) = λ o. not_both _ ((ready_iff rest i).1 (p, d)) (least_first (ready n held rest) n i o) in
              omega arith
        ]

    -- where a view is to come, some group is next
    pub next_some : (rest : ℕ → Bool) (i : ℕ) → i < n → So (rest i) → next n held rest < n
    next_some rest i l p = next_within (suc (count n (under rest i))) rest i l p (omega arith)

    lowest_together : (k : ℕ) → k < groups n held → So (together held (lowest n held k) (lowest n held k))
    lowest_together k h = let p = self (lowest n held k) (lowest_below k h) in and_both _ _ p p

    -- each group takes a view
    fewer_left : (k : ℕ) → k ≤ groups n held → k + count n (to_come n held k) ≤ n
    fewer_left zero h = omega (arith, count_le (to_come n held zero) n)
    fewer_left (suc k) h =
        let less =
        count_fewer (to_come n held (suc k)) (to_come n held k) n (lowest n held k) (λ j _. to_come_before k (suc k) j (omega arith))
        (lowest_below k h) (lowest_ready k h).0 (gone k (lowest n held k) (lowest_together k h)) in
        omega (arith, less, fewer_left k (omega arith))

    -- either none is next after the last group, or there are n
    pub none_left : (i : ℕ) → i < n → to_come n held (groups n held) i ≡ false
    unfolding groups
    none_left i l =
        elim (dec_lt (groups n held) n) [
          | yes h ↦
              let none : lowest n held (groups n held) ≡ n = eqb-true _ _ (least_passes (λ k. eqb (lowest n held k) n) n h) in
              false_of _ (λ p. omega (arith, none, next_some (to_come n held (groups n held)) i l p))
          | no h ↦ count_zero (to_come n held (groups n held)) n (omega (arith, fewer_left (groups n held) (omega arith))) i l
        ]

    -- Each group has a view, each view has a group, and just one.

    pub group_some : (k : ℕ) → k < groups n held → So (in_group n held k (lowest n held k))
    group_some k h = is_in_lem k (lowest n held k) h (lowest_below k h) (lowest_together k h)

    pub group_of : (i : ℕ) → i < n → (k : ℕ) × So (in_group n held k i)
    group_of i l = taken (groups n held) i (omega arith) l (none_left i l)

    -- a view is in no later group than one that holds it
    held_first : (k l i j : ℕ) → So (in_group n held k i) → So (in_group n held l j) → So (held i j) → k ≤ l
    held_first k l i j p q e =
        let a = member k i p in
        let b = member l j q in
        let low = lowest_below k a.group in
        let up = through _ i j low a.view b.view a.holds e in
        let held_by = through _ j _ low b.view (lowest_below l b.group) up b.is_held in
        let not_after : ¬ (l < k) = λ h. not_held_before l k h a.group held_by in
        omega arith

    pub group_one : (k l i : ℕ) → So (in_group n held k i) → So (in_group n held l i) → l ≡ k
    group_one k l i p q = let e = self i (member k i p).view in omega (arith, held_first k l i i p q e, held_first l k i i q p e)

    -- a group is the views that hold each other
    pub group_class : (k i j : ℕ) → So (in_group n held k i) → j < n → So (in_group n held k j) ↔ (So (held i j) × So (held j i))
    group_class k i j p l =
        let a = member k i p in
        let low = lowest_below k a.group in (
          λ q. let b = member k j q in (through i _ j a.view low l a.is_held b.holds, through j _ i l low a.view b.is_held a.holds),
          λ e. is_in_lem k j a.group l (and_both _ _ (through _ i j low a.view l a.holds e.0) (through j i _ l a.view low e.1 a.is_held)),
        )

    pub narrow_first : (k l i j : ℕ) → So (in_group n held k i) → So (in_group n held l j) → So (held i j) → (So (held j i) → ⊥) → k < l
    narrow_first k l i j p q e d =
        let apart : ¬ (k ≡ l) = λ r. d ((group_class l i j (subst (λ m. So (in_group n held m i)) r p) (member l j q).view).0 q).1 in
        omega (arith, held_first k l i j p q e)
