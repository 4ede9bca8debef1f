-- What the helpers on sets promise is the selection of the concept that a token makes of its operands.
use Prim.Native.Nat.{ℕ, ◌+◌, ◌<◌}
use mathlib.Core.Bool.{So, and-true}
use mathlib.Core.List.{List}
use mathlib.Core.Path.{sym, ◌∙◌}
use lib.Dec.{ltb}
use Rattle.records.specs.declared.schema.Signature.{Signature}
use Rattle.records.specs.State.{State}
use Rattle.records.specs.Concept.{Concept, class, everything, constant, both, mark}
use Rattle.records.specs.Layout.{constant_kinds, mark_kinds}
use Rattle.records.specs.StateRecord.{state_of}
use Rattle.records.specs.Marks.{allows}
use Rattle.records.proofs.General.BoolLaws.{and_factor}
use Rattle.rows.specs.Selection.{Selection}
use Rattle.paths.specs.Evaluable.{Evaluable}
use Rattle.rows.specs.Rows.{SharedRow, KindSet, Below}
use Rattle.rows.proofs.RowLaws.{row_zero}
use Rattle.paths.proofs.FactLaws.{says_inside, says_constant, says_mark}

-- What the facts of a kind name.

module _ {s : Signature} {w v : List ℕ} (ok : Evaluable s w v) where
  pub class_selection : {A : ℕ} {vs : List ℕ} → KindSet v A vs → Selection (state_of v) (class A) vs
  unfolding state_of
  class_selection {A} h = record { size = h.size; bits = λ d l. h.bits d l ∙ sym (says_inside ok A d) }

  pub constant_selection : {a : ℕ} {vs : List ℕ} → a < s.constants → KindSet v (constant_kinds + a) vs → Selection (state_of v) (constant a) vs
  unfolding state_of
  constant_selection {a} m h =
      record { size = h.size; bits = λ d l. h.bits d l ∙ says_constant ok a d m }

  pub mark_selection : {k : ℕ} {vs : List ℕ} → So (allows s k) → KindSet v (mark_kinds + k) vs → Selection (state_of v) (mark k) vs
  unfolding state_of
  mark_selection {k} m h = record { size = h.size; bits = λ d l. h.bits d l ∙ says_mark ok k d m }

-- What sets share.

module _ {I : State} where
  pub everything_selection : {vs : List ℕ} → Below I.size vs → Selection I everything vs
  everything_selection h = record { size = h.size; bits = λ d l. h.bits d l ∙ sym (and-true (ltb d I.size)) }

  pub both_selection : {C D : Concept} {ps qs vs : List ℕ} → Selection I C ps → Selection I D qs → SharedRow ps qs 0 vs → Selection I (both C D) vs
  both_selection {ps = ps} {qs = qs} p q h =
      record {
        size = h.size;
        bits = λ d l. h.bits d l ∙ rw (row_zero ps d, row_zero qs d, p.bits d l, q.bits d l) (and_factor (ltb d I.size) _ _);
      }
