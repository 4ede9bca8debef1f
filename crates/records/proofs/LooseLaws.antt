-- Refusal 14 by a shift: a word has a digit 1 at or above the place of its number of constants exactly if what is left of it after
-- a shift by that number is not 0.
use Prim.Native.Nat.{ℕ, ◌+◌, ◌/◌, ◌^◌, ◌<◌}
use mathlib.Core.Bool.{So, not, false≢true}
use mathlib.Core.List.{List}
use mathlib.Core.Path.{◌≡◌, sym, ◌∙◌}
use native.Mathlib.Decide.{ℕ_discrete, dec_lt}
use native.Mathlib.Nat.{div-eq_of_lt}
use native.Mathlib.Omega.{arith}
use borrow.Author.Tests.{ne_eqb, le-leb, leb-true}
use lib.Dec.{eqb}
use lib.ListN.{get_or}
use Rattle.records.specs.declared.schema.Signature.{Signature}
use Rattle.records.specs.Finite.{bit}
use Rattle.records.specs.Layout.{size_at, word_digits}
use Rattle.records.specs.SchemaRecord.{signature_of}
use Rattle.records.specs.SchemaRefusal.{undeclared_loose, refusal_14}
use Rattle.records.proofs.General.BoolLaws.{and_both, and_parts, false_of}
use Rattle.records.proofs.General.BitLaws.{bit_shifted, bit_past, some_bit}
use Rattle.records.proofs.General.FiniteLaws.{any_of_lem, none_any}

module _ (w : List ℕ) (words : (k : ℕ) → get_or w k 0 < 2 ^ word_digits) where
  abbrev s : Signature
  s = signature_of w

  small : s.loose < 2 ^ word_digits
  unfolding signature_of size_at
  small = words _

  -- a digit of a word has its place there
  digit_inside : (k : ℕ) → So (bit s.loose k) → k < word_digits
  digit_inside k e =
      elim (dec_lt k word_digits) [
        | yes l ↦ l
        | no m ↦ absurd (false≢true (sym (bit_past s.loose word_digits k (div-eq_of_lt small) (omega arith)) ∙ e))
      ]

  pub undeclared_is : refusal_14 w ≡ not (eqb (s.loose / 2 ^ s.constants) 0)
  unfolding refusal_14
  undeclared_is =
      elim (ℕ_discrete (s.loose / 2 ^ s.constants) 0) [
        | yes e ↦ rw e
            (none_any (undeclared_loose s) word_digits λ k l. false_of _ λ t.
            let (set, past) = and_parts (bit s.loose k) _ t in
            false≢true (sym (bit_past s.loose s.constants k e (leb-true s.constants k past)) ∙ set))
        | no n ↦
            let (k, e) = some_bit (s.loose / 2 ^ s.constants) n in
            let set = sym (bit_shifted s.loose s.constants k) ∙ e in
            rw (ne_eqb (s.loose / 2 ^ s.constants) 0 n)
            (any_of_lem (undeclared_loose s) word_digits (s.constants + k) (digit_inside (s.constants + k) set)
            (and_both (bit s.loose (s.constants + k)) _ set (le-leb s.constants (s.constants + k) (omega arith))))
      ]
