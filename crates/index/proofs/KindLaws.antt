-- Where the facts of a kind stand: the facts of an accepted state ascend, so their kinds rise; each step of the halving keeps
-- the parts; and a test that only facts of the kind pass is settled by the row between its two ends.
use Prim.Native.Nat.{ℕ, ◌+◌, ◌≤◌, ◌<◌}
use mathlib.Core.Bool.{Bool, So, false}
use mathlib.Core.List.{List}
use mathlib.Core.Path.{◌≡◌, subst}
use native.Mathlib.Decide.{dec_lt}
use native.Mathlib.Nat.{le_antisymm, le_of_eq}
use native.Mathlib.Omega.{arith}
use Rattle.records.specs.declared.schema.Signature.{Signature}
use Rattle.records.specs.Finite.{any, count}
use Rattle.records.specs.Layout.{state_layout, entries}
use Rattle.records.specs.StateRecord.{kind_at}
use Rattle.records.specs.StateRefusal.{AcceptedState}
use Rattle.records.proofs.General.BoolLaws.{false_of, test_same}
use Rattle.records.proofs.General.FiniteLaws.{none_any, any_of_lem, any_found, none_count, count_past}
use Rattle.records.proofs.AcceptedLaws.{passes_9}
use Rattle.records.proofs.OrderLaws.{kind_grows}
use Rattle.index.specs.Kinds.{KindsRise, KindParts}

pub kinds_rise : (s : Signature) (w : List ℕ) → AcceptedState s w → KindsRise w
kinds_rise s w ok = kind_grows w (passes_9 s w ok)

-- Each step of the halving keeps the parts.

pub parts_none : (w : List ℕ) (k : ℕ) {n : ℕ} → n ≡ entries state_layout w → KindParts w k 0 n
parts_none w k e =
    record { ordered = omega arith; within = le_of_eq e; lower = λ f l. absurd (omega arith); rest = λ f h l. absurd (omega arith) }

module _ (w : List ℕ) (k low high middle : ℕ) (up : KindsRise w) (p : KindParts w k low high) (a : low ≤ middle) (b : middle < high) where
  pub parts_low : kind_at w middle < k → KindParts w k (middle + 1) high
  parts_low m =
      record {
        ordered = omega arith;
        within = p.within;
        lower = λ f l. omega (arith, m, up f middle (omega arith) (omega (arith, b, p.within)));
        rest = p.rest;
      }

  pub parts_high : k ≤ kind_at w middle → KindParts w k low middle
  parts_high m =
      record {
        ordered = a;
        within = omega (arith, b, p.within);
        lower = p.lower;
        rest = λ f h l. omega (arith, m, up middle f h l);
      }

pub parts_met : (w : List ℕ) (k : ℕ) {low high : ℕ} → KindParts w k low high → high ≤ low → KindParts w k low low
parts_met w k {low} {high} p h = subst (KindParts w k low) (le_antisymm h p.ordered) p

-- The row of a kind.

module _ (w : List ℕ) {k : ℕ} where
  pub kind_within : {from to : ℕ} → KindParts w k from from → KindParts w (k + 1) to to → (i : ℕ) → from ≤ i → i < to → kind_at w i ≡ k
  kind_within p q i h l = omega (arith, p.rest i h (omega (arith, q.within)), q.lower i l)

  module _ (f : ℕ → Bool) (of : (i : ℕ) → So (f i) → kind_at w i ≡ k) where
    none_before : {from : ℕ} → KindParts w k from from → (i : ℕ) → i < from → f i ≡ false
    none_before p i l = false_of _ λ t. omega (arith, of i t, p.lower i l)

    none_after : {to : ℕ} → KindParts w (k + 1) to to → (i : ℕ) → to ≤ i → i < entries state_layout w → f i ≡ false
    none_after p i h l = false_of _ λ t. omega (arith, of i t, p.rest i h l)

    pub count_before : {from : ℕ} → KindParts w k from from → count from f ≡ 0
    count_before {from} p = none_count f from (none_before p)

    pub count_after : {to i : ℕ} → KindParts w (k + 1) to to → to ≤ i → i ≤ entries state_layout w → count (entries state_layout w) f ≡ count i f
    count_after {to} {i} p a b = count_past f i (entries state_layout w) b (λ j m n. none_after p j (omega arith) n)

    pub kind_before : {from : ℕ} → KindParts w k from from → any from f ≡ false
    kind_before {from} p = none_any f from (none_before p)

    pub kind_after : {to i : ℕ} → KindParts w (k + 1) to to → to ≤ i → i ≤ entries state_layout w → any (entries state_layout w) f ≡ any i f
    kind_after {to} {i} p a b =
        test_same _ _ (λ t. let (j, l, e) = any_found f (entries state_layout w) t in any_of_lem f i j (below j l e (dec_lt j i)) e)
        (λ t. let (j, l, e) = any_found f i t in any_of_lem f (entries state_layout w) j (omega arith) e)
      where
        below : (j : ℕ) → j < entries state_layout w → So (f j) → Dec (j < i) → j < i
        below j l e (yes m) = m
        below j l e (no n) = absurd (omega (arith, of j e, p.rest j (omega arith) l))
