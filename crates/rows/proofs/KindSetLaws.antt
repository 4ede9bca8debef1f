-- The objects that the facts of a kind name.
use Prim.Native.Nat.{ℕ, ◌+◌, ◌≤◌, ◌<◌}
use mathlib.Core.Bool.{Bool, So, ◌&&◌, ◌||◌}
use mathlib.Core.List.{List}
use mathlib.Core.Path.{◌≡◌, refl, sym, ap, ◌∙◌}
use native.Mathlib.Omega.{arith}
use borrow.Author.Tests.{eq-eqb, eqb-true}
use lib.Dec.{eqb}
use lib.ListN.{length, replicate}
use Rattle.records.specs.Finite.{any}
use Rattle.records.specs.Layout.{object_part, state_layout, entries}
use Rattle.records.specs.StateRecord.{kind_at, object_at, says}
use Rattle.records.proofs.General.BoolLaws.{and_left, eqb_same}
use Rattle.records.proofs.General.FiniteLaws.{any_more}
use Rattle.index.specs.BitSet.{bit_at, Inserted}
use Rattle.index.specs.Kinds.{KindParts}
use Rattle.index.proofs.BitSetLaws.{zero_bits}
use Rattle.index.proofs.KindLaws.{kind_before, kind_after, kind_within}
use Rattle.rows.specs.Selection.{set_words}
use Rattle.rows.specs.Rows.{KindSet}

pub object_few : (w : List ℕ) (i : ℕ) → object_at w i < object_part
unfolding object_at
object_few w i = omega arith

names_kind : (w : List ℕ) (k d i : ℕ) → So (eqb (kind_at w i) k && eqb (object_at w i) d) → kind_at w i ≡ k
names_kind w k d i h = eqb-true (kind_at w i) k (and_left _ _ h)

-- the first n facts
pub record Naming (w : List ℕ) (k n : ℕ) (vs : List ℕ) : Type 0 where
  pub size : length vs ≡ set_words
  bits : (d : ℕ) → d < object_part → bit_at vs d ≡ any n λ i. eqb (kind_at w i) k && eqb (object_at w i) d

module _ {w : List ℕ} {k : ℕ} where
  pub naming_none : {from : ℕ} → KindParts w k from from → Naming w k from (replicate set_words 0)
  naming_none p = record { size = refl; bits = λ d l. zero_bits set_words d ∙ sym (kind_before w _ (names_kind w k d) p) }

  pub naming_more : {from to i o : ℕ} {ws vs : List ℕ} → KindParts w k from from → KindParts w (k + 1) to to → from ≤ i → i < to → o ≡ object_at w i
      → Naming w k i ws
      → Inserted ws o vs
      → Naming w k (i + 1) vs
  naming_more {i = i} {o = o} f t a b e z h =
      record {
        size = h.size ∙ z.size;
        bits = λ d l. h.bits d ∙ rw (z.bits d l, any_more (λ i. eqb (kind_at w i) k && eqb (object_at w i) d) i, eq-eqb (kind_at w i) k (kind_within w f t i a b), e) (ap (λ (c : Bool). any i (λ j. eqb (kind_at w j) k && eqb (object_at w j) d) || c) (eqb_same d (object_at w i) (object_at w i) d sym sym));
      }

  pub naming_all : {i to : ℕ} {vs : List ℕ} → Naming w k i vs → KindParts w (k + 1) to to → to ≤ i → i ≤ entries state_layout w → KindSet w k vs
  unfolding says
  naming_all z p l m = record { size = z.size; bits = λ d j. z.bits d j ∙ sym (kind_after w _ (names_kind w k d) p l m) }
