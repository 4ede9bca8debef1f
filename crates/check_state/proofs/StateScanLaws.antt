-- What the check of a state keeps while it scans the facts is what refusals 8 to 10 ask: whether they ascended so far,
-- and for each constant how many facts name it and the object of the last of them. And of facts that ascend, the two at the end of
-- the count of class facts tell whether it is right.
use Prim.Native.Nat.{ℕ, zero, suc, ◌+◌, ◌-◌, ◌≤◌, ◌<◌}
use mathlib.Core.Bool.{Bool, true, false, So, cond, not, ◌&&◌, ◌||◌, false≢true, not-not}
use mathlib.Core.List.{List}
use mathlib.Core.Path.{◌≡◌, refl, ap, sym, subst, ◌∙◌}
use mathlib.Core.Logic.{⊎_elim}
use native.Mathlib.Nat.{le_of_eq, le_antisymm}
use native.Mathlib.Numerals.{add-one, sub-one}
use native.Mathlib.Decide.{ℕ_discrete, dec_lt}
use native.Mathlib.Omega.{arith}
use borrow.Author.Tests.{lt-ltb, le-ltb, le-leb, eq-eqb, ne_eqb, leb-true, ltb-true, eqb-true, not-false}
use lib.Dec.{eqb, ltb, leb}
use lib.ListN.{length, get_or, set, length-set, replicate, get_or-replicate, get_or-eq_default}
use lib.Seq.{get_or-set_same, get_or-set_other}
use Rattle.std.specs.Prelude.{Some, None}
use Rattle.records.specs.declared.schema.Signature.{Signature}
use Rattle.records.specs.Finite.{any, all, count}
use Rattle.records.specs.Layout.{state_layout, entries, constant_kinds, fact_kinds, max_constants, max_marks}
use Rattle.records.specs.StateRecord.{class_facts, is_class_fact, kind_at, object_at, state_of}
use Rattle.records.specs.StateRefusal.{ascends, descends, faulty_fact, names_at, misnames, marks_at, mismarks, refusal_8, refusal_9, refusal_15, refusal_10}
use Rattle.check_state.specs.Scan.{last_passes, follows_at, slots, slot_of, named_in, misnamed_at, misnamed, mismarked_at, mismarked}
use Rattle.records.specs.Marks.{allows}
use Rattle.records.specs.State.{clashing, repeats}
use Rattle.records.proofs.General.BoolLaws.{or_false_left, or_left, or_right, or_true_cases, and_left, and_right, and_both, not_both, eqb_same}
use Rattle.records.proofs.OrderLaws.{class_first}
use Rattle.records.proofs.FactLaws.{name_is, mark_names, fact_kind, fact_object}
use Rattle.records.proofs.General.FiniteLaws.{count_le, any_zero, any_still, any_of_lem, any_none, any_same, all_more, count_more, count_same, count_found, none_count}

-- Order.

pub last_later : (f : ℕ → Bool) (i : ℕ) → (i ≡ 0 → ⊥) → last_passes f i ≡ f (i - 1)
unfolding last_passes
last_later f zero h = absurd (h refl)
last_later f (suc i) h = rw sub-one

pub order_is : (w : List ℕ) (n : ℕ) → all n (follows_at w) ≡ not (any (n - 1) (descends w))
unfolding last_passes all any
order_is w zero = refl
order_is w (suc zero) = refl
order_is w (suc (suc n)) = rw (order_is w (suc n), sub-one (suc n), sub-one (suc (suc n))) (join (any n (descends w)) (ascends w n))
  where
    join : (a b : Bool) → (not a && b) ≡ not (a || not b)
    join true b = refl
    join false true = refl
    join false false = refl

module _ (w : List ℕ) (up : refusal_9 w ≡ false) where
  -- Refusal 15 by the last fact before the end of the count, and the first after it: class facts come first.
  pub ends_tell : (ltb (entries state_layout w) (class_facts w) || not (last_passes (is_class_fact w) (class_facts w)) || ltb (class_facts w) (entries state_layout w) && is_class_fact w (class_facts w)) ≡ refusal_15 w
  unfolding refusal_15 last_passes
  ends_tell = tell (dec_lt (class_facts w) m) (dec_lt m (class_facts w))
    where
      n : ℕ
      n = entries state_layout w

      m : ℕ
      m = count n (is_class_fact w)

      few : m ≤ n
      few = count_le (is_class_fact w) n

      before : (c : ℕ) → c ≤ m → So (last_passes (is_class_fact w) c)
      before zero h = refl
      before (suc i) h = class_first w up i (omega (arith, few)) ∙ lt-ltb i m h

      past : (c : ℕ) → m < c → Dec (n < c) → So (ltb n c || not (last_passes (is_class_fact w) c))
      past zero h d = absurd (omega arith)
      past (suc i) h (yes l) = or_left (ltb n (suc i)) _ (lt-ltb n (suc i) l)
      past (suc i) h (no l) = or_right (ltb n (suc i)) _ (ap not (class_first w up i (omega arith) ∙ le-ltb i m (omega arith)))

      after : Dec (m < n) → (ltb m n && is_class_fact w m) ≡ false
      after (yes l) = rw (lt-ltb m n l) (class_first w up m l ∙ le-ltb m m (omega arith))
      after (no l) = rw (le-ltb m n (omega arith))

      tell : Dec (class_facts w < m) → Dec (m < class_facts w)
          → (ltb n (class_facts w) || not (last_passes (is_class_fact w) (class_facts w)) || ltb (class_facts w) n && is_class_fact w (class_facts w)) ≡ not (eqb (class_facts w) m)
      tell (yes l) d =
          let inside : class_facts w < n = omega (arith, l, few) in
          or_right (ltb n (class_facts w) || not (last_passes (is_class_fact w) (class_facts w))) _
          (and_both _ _ (lt-ltb (class_facts w) n inside) (class_first w up (class_facts w) inside ∙ lt-ltb (class_facts w) m l))
          ∙ sym (ap not (ne_eqb (class_facts w) m (λ e. omega arith)))
      tell (no k) (yes l) =
          or_left _ (ltb (class_facts w) n && is_class_fact w (class_facts w)) (past (class_facts w) l (dec_lt n (class_facts w)))
          ∙ sym (ap not (ne_eqb (class_facts w) m (λ e. omega arith)))
      tell (no k) (no l) =
          let e : class_facts w ≡ m = omega arith in
          rw (e, le-ltb n m few, before m (omega arith), after (dec_lt m n), eq-eqb m m refl)

-- Constants.

-- the object of the last of the first i facts that names the constant
unfoldable pub last_object : List ℕ → ℕ → ℕ → ℕ
last_object w a zero = 0
last_object w a (suc i) = cond (names_at w a i) (object_at w i) (last_object w a i)

last_found : (w : List ℕ) (a n : ℕ) → So (any n (names_at w a)) → (j : ℕ) × (j < n) × So (names_at w a j) × (last_object w a n ≡ object_at w j)
unfolding last_object any
last_found w a zero e = absurd (false≢true e)
last_found w a (suc n) e = pick (names_at w a n) refl (last_found w a n)
  where
    pick : (t : Bool) → names_at w a n ≡ t → (So (any n (names_at w a)) → (j : ℕ) × (j < n) × So (names_at w a j) × (last_object w a n ≡ object_at w j)) → (j : ℕ) × (j < suc n) × So (names_at w a j) × (cond t (object_at w n) (last_object w a n) ≡ object_at w j)
    pick true q h = (n, omega arith, q, refl)
    pick false q h =
        let (j, l, p, r) = h (⊎_elim (λ u. u) (λ u. absurd (false≢true (sym q ∙ u))) (or_true_cases (any n (names_at w a)) (names_at w a n) e)) in
        (j, omega arith, p, r)

-- a fact names the constant or mark whose slot its kind has, and none where it has no slot
slot_within : (k at : ℕ) → slot_of k ≡ Some at → (constant_kinds ≤ k) × (k < fact_kinds) × (at ≡ k - constant_kinds)
slot_within k at = pick (leb constant_kinds k && ltb k fact_kinds) refl
  where
    pick : (t : Bool) → (leb constant_kinds k && ltb k fact_kinds) ≡ t → cond t (Some (k - constant_kinds)) None ≡ Some at → (constant_kinds ≤ k) × (k < fact_kinds) × (at ≡ k - constant_kinds)
    pick true p e = (leb-true constant_kinds k (and_left _ _ p), ltb-true k fact_kinds (and_right _ _ p), grind (arith, e))
    pick false p e = grind (arith, e)

pub slot_below : (k at : ℕ) → slot_of k ≡ Some at → at < slots
slot_below k at e = let (low, high, is) = slot_within k at e in omega (arith, low, high, is)

slot_is : (k at a : ℕ) → slot_of k ≡ Some at → eqb at a ≡ eqb k (constant_kinds + a)
slot_is k at a e = let (low, high, is) = slot_within k at e in eqb_same at a k (constant_kinds + a) (λ q. omega (arith, low, is, q)) (λ q. omega (arith, low, is, q))

slot_none : (k a : ℕ) → slot_of k ≡ None → a < slots → eqb k (constant_kinds + a) ≡ false
slot_none k a e m = pick (leb constant_kinds k && ltb k fact_kinds) refl e
  where
    pick : (t : Bool) → (leb constant_kinds k && ltb k fact_kinds) ≡ t → cond t (Some (k - constant_kinds)) None ≡ None → eqb k (constant_kinds + a) ≡ false
    pick true p e = grind (arith, e)
    pick false p e =
        ne_eqb k (constant_kinds + a) (λ q. not_both (leb constant_kinds k && ltb k fact_kinds)
        (and_both _ _ (le-leb constant_kinds k (omega (arith, q))) (lt-ltb k fact_kinds (omega (arith, q, m)))) p)

set_slot : (l : List ℕ) (at a v : ℕ) → at < length l → get_or (set l at v) a 0 ≡ cond (eqb at a) v (get_or l a 0)
set_slot l at a v h = pick (ℕ_discrete at a)
  where
    pick : Dec (at ≡ a) → get_or (set l at v) a 0 ≡ cond (eqb at a) v (get_or l a 0)
    pick (yes e) = rw (eq-eqb at a e, ← e) (get_or-set_same l at v 0 h)
    pick (no n) = rw (ne_eqb at a n) (get_or-set_other l at a v 0 (λ e. n (sym e)))

-- What the check of a state has kept after i facts.
pub record Kept (s : Signature) (w : List ℕ) (i : ℕ) (asc : Bool) (counts named : List ℕ) : Type 0 where
  pub faultless : any i (faulty_fact s w) ≡ false
  pub order : asc ≡ all i (follows_at w)
  pub counters : length counts ≡ slots
  pub places : length named ≡ slots
  pub small : (k : ℕ) → get_or counts k 0 ≤ i
  pub counted : (a : ℕ) → a < slots → get_or counts a 0 ≡ count i (names_at w a)
  pub last : (a : ℕ) → a < slots → get_or named a 0 ≡ last_object w a i

module _ (s : Signature) (w : List ℕ) where
  pub kept_more : {i : ℕ} {asc : Bool} {counts named : List ℕ} → Kept s w i asc counts named → faulty_fact s w i ≡ false → (at : ℕ) → slot_of (kind_at w i) ≡ Some at → Kept s w (i + 1) (asc && follows_at w i) (set counts at (get_or counts at 0 + 1)) (set named at (object_at w i))
  unfolding last_object
  kept_more {i} {asc} {counts} {named} z ok at e =
      record {
        faultless = any_still (faulty_fact s w) i z.faultless ok;
        order = rw (all_more (follows_at w) i, z.order);
        counters = length-set counts at _ ∙ z.counters;
        places = length-set named at _ ∙ z.places;
        small = λ k. rw (set_slot counts at k (get_or counts at 0 + 1) (rw z.counters l)) (grown (eqb at k) (z.small k) (z.small at));
        counted = λ a m. rw (set_slot counts at a (get_or counts at 0 + 1) (rw z.counters l), count_more (names_at w a) i, ← (is a)) (more a m (ℕ_discrete at a));
        last = λ a m. rw (set_slot named at a (object_at w i) (rw z.places l), add-one, ← (is a), z.last a m);
      }
    where
      l : at < slots
      l = slot_below (kind_at w i) at e

      is : (a : ℕ) → eqb at a ≡ names_at w a i
      is a = slot_is (kind_at w i) at a e

      grown : (t : Bool) {k : ℕ} → k ≤ i → get_or counts at 0 ≤ i → cond t (get_or counts at 0 + 1) k ≤ i + 1
      grown true p q = omega arith
      grown false p q = omega arith

      more : (a : ℕ) → a < slots → Dec (at ≡ a) → cond (eqb at a) (get_or counts at 0 + 1) (get_or counts a 0) ≡ cond (eqb at a) (suc (count i (names_at w a))) (count i (names_at w a))
      more a m (yes q) = rw (eq-eqb at a q, q, z.counted a m) (omega arith)
      more a m (no n) = rw (ne_eqb at a n) (z.counted a m)

  pub kept_past : {i : ℕ} {asc : Bool} {counts named : List ℕ} → Kept s w i asc counts named → faulty_fact s w i ≡ false → slot_of (kind_at w i) ≡ None → Kept s w (i + 1) (asc && follows_at w i) counts named
  unfolding last_object
  kept_past {i} {asc} {counts} {named} z ok e =
      record {
        faultless = any_still (faulty_fact s w) i z.faultless ok;
        order = rw (all_more (follows_at w) i, z.order);
        counters = z.counters;
        places = z.places;
        small = λ k. omega (arith, z.small k);
        counted = λ a m. rw (count_more (names_at w a) i, slot_none (kind_at w i) a e m) (z.counted a m);
        last = λ a m. rw (add-one, slot_none (kind_at w i) a e m) (z.last a m);
      }

  pub kept_none : Kept s w 0 true (replicate slots 0) (replicate slots 0)
  unfolding all count last_object
  kept_none =
      record {
        faultless = any_zero (faulty_fact s w);
        order = refl;
        counters = refl;
        places = refl;
        small = λ k. zeros k;
        counted = λ a m. zero_at a m;
        last = λ a m. zero_at a m;
      }
    where
      zero_at : (k : ℕ) → k < slots → ◌≡◌ {A = ℕ} (get_or (replicate slots 0) k 0) 0
      zero_at k m = get_or-replicate slots k 0 0 (omega arith)

      zeros : (k : ℕ) → get_or (replicate slots 0) k 0 ≤ 0
      zeros k = le_of_eq (pick (dec_lt k slots))
        where
          pick : Dec (k < slots) → ◌≡◌ {A = ℕ} (get_or (replicate slots 0) k 0) 0
          pick (yes l) = get_or-replicate slots k 0 0 l
          pick (no n) = get_or-eq_default (replicate slots 0) 0 {n = k} (omega arith)

  pub kept_all : {i n : ℕ} {asc : Bool} {counts named : List ℕ} → Kept s w i asc counts named → i ≤ n → n ≤ i → n ≡ entries state_layout w
      → Kept s w (entries state_layout w) asc counts named
  kept_all {asc = asc} {counts} {named} z a b e = subst (λ (m : ℕ). Kept s w m asc counts named) (le_antisymm a b ∙ e) z

  module _ {asc : Bool} {counts named : List ℕ} (z : Kept s w (entries state_layout w) asc counts named) where
    pub kept_8 : refusal_8 s w ≡ false
    unfolding refusal_8
    kept_8 = z.faultless

    pub kept_9 : refusal_9 w ≡ not asc
    unfolding refusal_9
    kept_9 = rw (z.order, order_is w (entries state_layout w)) (sym (not-not _))

    -- of constants with one fact each, the last object is the object
    named_is : (a : ℕ) → a < slots → count (entries state_layout w) (names_at w a) ≡ 1 → get_or named a 0 ≡ (state_of w).names a
    named_is a m one =
        let (j, l, p, q) = last_found w a (entries state_layout w) (count_found (names_at w a) (entries state_layout w) (rw one (omega arith))) in
        z.last a m ∙ q ∙ sym (name_is w a one j l p (fact_object s w j (any_none (faulty_fact s w) (entries state_layout w) z.faultless j l)))

    misnames_is : (a : ℕ) → a < slots → ((b : ℕ) → b < a → misnamed_at s counts named b ≡ false) → misnamed_at s counts named a ≡ misnames s w a
    unfolding repeats
    misnames_is a m earlier = rw (z.counted a m) (pick (ℕ_discrete (count (entries state_layout w) (names_at w a)) 1))
      where
        once : (b : ℕ) → b < a → count (entries state_layout w) (names_at w b) ≡ 1
        once b l =
            sym (z.counted b (omega arith)) ∙ eqb-true (get_or counts b 0) 1 (not-false _ (or_false_left (not (eqb (get_or counts b 0) 1)) _ (earlier b l)))

        pick : Dec (count (entries state_layout w) (names_at w a) ≡ 1)
            → (not (eqb (count (entries state_layout w) (names_at w a)) 1) || any a (clashing s (named_in named) a)) ≡ (not (eqb (count (entries state_layout w) (names_at w a)) 1) || any a (clashing s (state_of w).names a))
        pick (no n) = rw (ne_eqb (count (entries state_layout w) (names_at w a)) 1 n)
        pick (yes one) =
            rw (eq-eqb (count (entries state_layout w) (names_at w a)) 1 one)
            (any_same (clashing s (named_in named) a) (clashing s (state_of w).names a) a (λ b l h. rw (named_is b (omega arith) (once b l), named_is a m one)))

    misnamed_is : misnamed s counts named ≡ any s.constants (misnames s w)
    unfolding misnamed
    misnamed_is = pick (dec_lt slots s.constants)
      where
        pick : Dec (slots < s.constants) → (ltb slots s.constants || any s.constants (misnamed_at s counts named)) ≡ any s.constants (misnames s w)
        pick (yes l) =
            rw (lt-ltb slots s.constants l)
            (sym (any_of_lem (misnames s w) s.constants slots l
            (or_left (not (eqb (count (entries state_layout w) (names_at w slots)) 1)) (repeats s (state_of w).names slots)
            (rw (none_count (names_at w slots) (entries state_layout w) unnamed)))))
          where
            unnamed : (i : ℕ) → i < entries state_layout w → names_at w slots i ≡ false
            unnamed i h = ne_eqb (kind_at w i) fact_kinds (λ e. omega (arith, fact_kind s w i (any_none (faulty_fact s w) (entries state_layout w) z.faultless i h)))
        pick (no n) =
            rw (le-ltb slots s.constants (omega arith))
            (any_same (misnamed_at s counts named) (misnames s w) s.constants (λ a l h. misnames_is a (omega arith) h))

    mismarks_is : (k : ℕ) → k < max_marks → mismarked_at s counts k ≡ mismarks s w k
    mismarks_is k l =
        ap (λ (n : ℕ). allows s k && not (eqb n 1))
        (z.counted (max_constants + k) (omega arith)
        ∙ count_same (names_at w (max_constants + k)) (marks_at w k) (entries state_layout w) (λ i h. mark_names w k i))

    pub kept_10 : (misnamed s counts named || mismarked s counts) ≡ refusal_10 s w
    unfolding mismarked refusal_10
    kept_10 =
        rw (misnamed_is, any_same (mismarked_at s counts) (mismarks s w) max_marks (λ k l h. mismarks_is k l))
