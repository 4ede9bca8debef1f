-- Which object or fact breaks an axiom, by the state's words and its index.
-- Contracts of helper functions cite these; BreakLaws of proofs/ ties them to what the axioms mean.
use Rattle.std.specs.Prelude.{ℕ, ◌+◌, ◌-◌, ◌*◌, Bool, false, not, ◌&&◌, List, eqb, ltb}
use Rattle.records.specs.declared.schema.Axiom.{Axiom}
use Rattle.records.specs.declared.schema.Axiom.TheVariants.{Subclass, Typing, Necessary, Single, Relates}
use Rattle.records.specs.Layout.{state_layout, left_at, right_at, object_part, attribute_kinds}
use Rattle.records.specs.StateRecord.{kind_at, object_at}
use Rattle.index.specs.BitSet.{bit_at}

-- by the index, some fact is of this kind and object
abbrev pub seen_at : List ℕ → ℕ → ℕ → Bool
seen_at seen k d = bit_at seen (k * object_part + d)

-- fact f is a pair of attribute P
abbrev pub is_pair : List ℕ → ℕ → ℕ → Bool
is_pair w P f = eqb (kind_at w f) (attribute_kinds + P)

-- the fact before f has the same left word
abbrev pub repeats_left : List ℕ → ℕ → Bool
repeats_left w f = ltb 0 f && eqb (left_at state_layout w (f - 1)) (left_at state_layout w f)

-- object d is in A and not in B, or in A without a value of P
abbrev pub object_breaks : List ℕ → Axiom → ℕ → Bool
object_breaks seen (Subclass A B) d = seen_at seen A d && not (seen_at seen B d)
object_breaks seen (Typing A P B) d = false
object_breaks seen (Necessary A P) d = seen_at seen A d && not (seen_at seen (attribute_kinds + P) d)
object_breaks seen (Single A P) d = false
object_breaks seen (Relates P A B) d = false

-- Of a pair at f of the axiom's attribute, the objects are not where the axiom has them. The facts ascend strictly, so of two
-- values at one object some two stand next to each other.
abbrev pub misplaced : List ℕ → List ℕ → Axiom → ℕ → Bool
misplaced w seen (Subclass A B) f = false
misplaced w seen (Typing A P B) f = seen_at seen A (object_at w f) && not (seen_at seen B (right_at state_layout w f))
misplaced w seen (Necessary A P) f = false
misplaced w seen (Single A P) f = seen_at seen A (object_at w f) && repeats_left w f
misplaced w seen (Relates P A B) f = not (seen_at seen A (object_at w f) && seen_at seen B (right_at state_layout w f))

-- fact f is a pair of P whose objects are not where the axiom has them. The facts ascend strictly, so of two values at
-- one object some two stand next to each other.
abbrev pub pair_breaks : List ℕ → List ℕ → Axiom → ℕ → Bool
pair_breaks w seen (Subclass A B) f = false
pair_breaks w seen (Typing A P B) f = is_pair w P f && seen_at seen A (object_at w f) && not (seen_at seen B (right_at state_layout w f))
pair_breaks w seen (Necessary A P) f = false
pair_breaks w seen (Single A P) f = is_pair w P f && seen_at seen A (object_at w f) && repeats_left w f
pair_breaks w seen (Relates P A B) f = is_pair w P f && not (seen_at seen A (object_at w f) && seen_at seen B (right_at state_layout w f))
