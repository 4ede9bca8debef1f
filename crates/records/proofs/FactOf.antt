-- The facts of a state as numbers: how they stand in order, and what the check of a record asks of one.
use Prim.Native.Nat.{ℕ, ◌+◌, ◌<◌}
use native.Mathlib.Omega.{arith}
use native.Mathlib.Decide.{dec_lt}
use mathlib.Core.Bool.{So, ◌&&◌, ◌||◌}
use mathlib.Core.Path.{sym, subst, subst₂}
use lib.Dec.{eqb, ltb}
use borrow.Author.Tests.{eq-eqb, lt-ltb}
use Rattle.records.specs.declared.schema.Signature.{Signature}
use Rattle.records.specs.Layout.{object_part, word_part, attribute_kinds}
use Rattle.records.specs.Marks.{allows}
use Rattle.records.specs.State.{State, Member, Related}
use Rattle.records.specs.StateRefusal.{declares_kind, suits_kind}
use Rattle.records.specs.Encoding.{fact, left_word, right_word, name_fact, mark_fact}
use Rattle.records.proofs.General.BoolLaws.{and_both, or_left, or_right}
use Rattle.records.proofs.EncodingLaws.{kind_of, object_in, fact_parts}

-- the facts of a state, of what is declared and of the allowed marks
pub data FactOf (s : Signature) (I : State) : ℕ → Type 0 where
  of_class : (A d : ℕ) → A < s.classes → d < I.size → Member I A d → FactOf s I (fact A d 0)
  of_pair : (P d e : ℕ) → P < s.attributes → d < I.size → e < I.size → Related I P d e
      → FactOf s I (fact (attribute_kinds + P) d e)
  of_name : (a : ℕ) → a < s.constants → FactOf s I (name_fact a (I.names a))
  of_mark : (k : ℕ) → So (allows s k) → FactOf s I (mark_fact k (I.marks k))

-- facts ascend as numbers as their words do, left before right
pub word_order : (f g : ℕ) → f < g → So (ltb (left_word f) (left_word g) || eqb (left_word f) (left_word g) && ltb (right_word f) (right_word g))
word_order f g h =
    elim (dec_lt (left_word f) (left_word g)) [
      | yes y ↦ or_left (ltb (left_word f) (left_word g)) _ (lt-ltb (left_word f) (left_word g) y)
      | no n ↦
          or_right (ltb (left_word f) (left_word g)) _
          (and_both _ _ (eq-eqb (left_word f) (left_word g) (omega arith)) (lt-ltb (right_word f) (right_word g) (omega arith)))
    ]

-- what the check of a record asks of a fact
pub record Sound (s : Signature) (n f : ℕ) : Type 0 where
  pub kind : So (declares_kind s (kind_of f))
  pub object : object_in f < n
  pub right : So (suits_kind n (kind_of f) (right_word f))

pub sound_of : (s : Signature) (n k d r : ℕ) → d < object_part → r < word_part → So (declares_kind s k) → d < n → So (suits_kind n k r)
    → Sound s n (fact k d r)
sound_of s n k d r h j kind object right =
    let (p, q, u) = fact_parts k d r h j in
    record {
      kind = subst (λ (x : ℕ). So (declares_kind s x)) (sym p) kind;
      object = omega arith;
      right = subst₂ (λ (x y : ℕ). So (suits_kind n x y)) (sym p) (sym u) right;
    }
