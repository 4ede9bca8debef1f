-- One pass over the facts of a kind: the links so far, and the counts so far for each second object. Facts before the row of the
-- kind and after it are no links.
use Prim.Native.Nat.{ℕ, ◌+◌, ◌-◌, ◌≤◌, ◌<◌}
use mathlib.Core.Bool.{Bool, So, ◌&&◌, and-true, and-false}
use mathlib.Core.List.{List}
use mathlib.Core.Path.{◌≡◌, refl, sym, ap, ◌∙◌}
use native.Mathlib.Decide.{ℕ_discrete, dec_le}
use native.Mathlib.Numerals.{add-one}
use native.Mathlib.Omega.{arith}
use borrow.Author.Tests.{eq-eqb, ne_eqb, eqb-true}
use mir.Val.{bool_byte}
use lib.Dec.{eqb}
use lib.ListN.{length, take, get_or, set, length-set, replicate, length-replicate, get_or-replicate}
use lib.Seq.{length-take-le, get_or-set_same, get_or-set_other}
use Rattle.std.proofs.lemmas.List.{get_or-take}
use Rattle.records.specs.declared.layout.Layout.{Layout}
use Rattle.records.specs.Helpers.Word.{IsWord, IsLayout}
use Rattle.records.specs.Finite.{count, sum}
use Rattle.records.specs.Layout.{state_layout, entries, right_at, max_objects}
use Rattle.records.specs.StateRecord.{kind_at, object_at}
use Rattle.records.proofs.General.BoolLaws.{and_left}
use Rattle.records.proofs.General.FiniteLaws.{count_turn, count_still, count_le, count_same, none_count}
use Rattle.records.proofs.General.SumLaws.{sum_same}
use Rattle.records.proofs.General.TableLaws.{count_add}
use Rattle.index.specs.BitSet.{bit_at}
use Rattle.index.specs.Kinds.{KindParts}
use Rattle.index.proofs.KindLaws.{count_before, count_after, kind_within}
use Rattle.links.specs.Counts.{link_at, Tallied, Walkable}

-- the second object of a fact of the kind
pub second_is : (w : List ℕ) (i : ℕ) {o : ℕ} {layout : Layout} → IsLayout state_layout layout → IsWord (right_at layout w i) o → o ≡ right_at state_layout w i
second_is w i l x = rw l.value at x.value

pub second_few : {w : List ℕ} {k to i o : ℕ} → Walkable w k → KindParts w (k + 1) to to → i < to → o ≡ right_at state_layout w i → o < max_objects
second_few {i = i} walk q h e = rw e (walk.inside i (omega (arith, h, q.within)))

module _ (w : List ℕ) (k : ℕ) (chosen : List ℕ) where
  link_kind : (i : ℕ) → So (link_at w k chosen i) → kind_at w i ≡ k
  link_kind i h = eqb-true (kind_at w i) k (and_left _ _ h)

  -- whether fact i is a link, where it is of the kind
  pub link_here : {from to i : ℕ} {b : Bool} → KindParts w k from from → KindParts w (k + 1) to to → from ≤ i → i < to
      → b ≡ bit_at chosen (object_at w i)
      → b ≡ link_at w k chosen i
  link_here {i = i} f t a l q = q ∙ rw (eq-eqb (kind_at w i) k (kind_within w f t i a l))

  -- all links stand in the row of the kind
  pub links_between : {from to : ℕ} → KindParts w k from from → KindParts w (k + 1) to to
      → count (to - from) (λ i. bit_at chosen (object_at w (from + i))) ≡ count (entries state_layout w) (link_at w k chosen)
  links_between {from} {to} p q = pick (dec_le from to)
    where
      all : {i : ℕ} → to ≤ i → i ≤ entries state_layout w → count (entries state_layout w) (link_at w k chosen) ≡ count i (link_at w k chosen)
      all h l = count_after w (link_at w k chosen) link_kind q h l

      pick : Dec (from ≤ to) → count (to - from) (λ i. bit_at chosen (object_at w (from + i))) ≡ count (entries state_layout w) (link_at w k chosen)
      pick (yes h) =
          let e : from + (to - from) ≡ to = omega arith in
          count_same (λ i. bit_at chosen (object_at w (from + i))) (λ i. link_at w k chosen (from + i)) (to - from) (λ i l. link_here p q (omega arith) (omega arith) refl)
          ∙ omega (arith, count_add (link_at w k chosen) from (to - from), count_before w (link_at w k chosen) link_kind p, ap (λ (n : ℕ). count n (link_at w k chosen)) e, all (omega arith) q.within)
      pick (no n) =
          let e : to - from ≡ 0 = omega arith in
          ap (λ (n : ℕ). count n (λ i. bit_at chosen (object_at w (from + i)))) e
          ∙ none_count _ 0 (λ i l. absurd (omega arith))
          ∙ sym (all (omega arith) p.within ∙ count_before w (link_at w k chosen) link_kind p)

  -- links to one second object
  abbrev to_second : ℕ → ℕ → Bool
  to_second e i = link_at w k chosen i && eqb (right_at state_layout w i) e

  second_kind : (e i : ℕ) → So (to_second e i) → kind_at w i ≡ k
  second_kind e i h = link_kind i (and_left _ _ h)

  pub tallied_none : {from : ℕ} → KindParts w k from from → Tallied w k chosen from (replicate max_objects 0)
  tallied_none p =
      record {
        size = length-replicate {A = ℕ} max_objects 0;
        each = λ e l. get_or-replicate {A = ℕ} max_objects e 0 0 l ∙ sym (count_before w (to_second e) (second_kind e) p);
      }

  -- no count is above the number of facts passed
  pub tallied_few : {i e : ℕ} {counts : List ℕ} → Tallied w k chosen i counts → e < max_objects → get_or counts e 0 ≤ i
  tallied_few {i} {e} z l = rw (z.each e l) (count_le _ i)

  pub tallied_more : {i o : ℕ} {b : Bool} {counts : List ℕ} → Tallied w k chosen i counts → o ≡ right_at state_layout w i → o < max_objects → b ≡ link_at w k chosen i
      → Tallied w k chosen (i + 1) (set counts o (get_or counts o 0 + bool_byte b))
  tallied_more {i} {o} {b} {counts} z q h t =
      record { size = length-set counts o _ ∙ z.size; each = λ e l. pick e l (ℕ_discrete e o) }
    where
      pick : (e : ℕ) → e < max_objects → Dec (e ≡ o) → get_or (set counts o (get_or counts o 0 + bool_byte b)) e 0 ≡ count (i + 1) (to_second e)
      pick e l (yes p) =
          rw (p, get_or-set_same counts o (get_or counts o 0 + bool_byte b) 0 (rw z.size h))
          (count_turn (to_second o) i (get_or counts o 0) b (z.each o h)
          (t ∙ rw (eq-eqb (right_at state_layout w i) o (sym q)) (sym (and-true (link_at w k chosen i)))))
      pick e l (no n) =
          rw (get_or-set_other counts o e (get_or counts o 0 + bool_byte b) 0 n, add-one)
          (z.each e l
          ∙ sym (count_still (to_second e) i (rw (ne_eqb (right_at state_layout w i) e (λ r. n (sym r ∙ sym q))) (and-false (link_at w k chosen i)))))

  pub tallied_all : {to i : ℕ} {counts : List ℕ} → Tallied w k chosen i counts → KindParts w (k + 1) to to → to ≤ i → i ≤ entries state_layout w
      → Tallied w k chosen (entries state_layout w) counts
  tallied_all z p h l = record { size = z.size; each = λ e m. z.each e m ∙ sym (count_after w (to_second e) (second_kind e) p h l) }

-- Counts that are added up.

pub sum_taken : (l : List ℕ) (n : ℕ) → n ≤ length l → sum (length (take n l)) (λ e. get_or (take n l) e 0) ≡ sum n (λ e. get_or l e 0)
sum_taken l n h = ap (λ (m : ℕ). sum m (λ e. get_or (take n l) e 0)) (length-take-le n l h) ∙ sum_same _ _ n (λ e k. get_or-take n l e 0 k)
