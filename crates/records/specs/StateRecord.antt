-- Document 01, "Records": the state that a record stands for, with the objects below N and exactly what its facts say.
use Rattle.std.specs.Prelude.{ℕ, ◌+◌, ◌/◌, ◌%◌, List, Bool, ◌&&◌, eqb, ltb}
use Rattle.records.specs.Finite.{any, least}
use Rattle.records.specs.State.{State}
use Rattle.records.specs.Layout.{state_layout, size_at, entries, left_at, right_at, object_part, attribute_kinds, constant_kinds, mark_kinds}

unfoldable pub objects : List ℕ → ℕ
objects w = size_at w 0

-- how many of the facts are class facts, as the record says
unfoldable pub class_facts : List ℕ → ℕ
class_facts w = size_at w 2

-- Left is a kind and an object.
unfoldable pub kind_at : List ℕ → ℕ → ℕ
kind_at w i = left_at state_layout w i / object_part

unfoldable pub object_at : List ℕ → ℕ → ℕ
object_at w i = left_at state_layout w i % object_part

-- Fact i is a class fact: it puts its object in a class.
unfoldable pub is_class_fact : List ℕ → ℕ → Bool
is_class_fact w i = ltb (kind_at w i) attribute_kinds

-- some fact is of this kind and object
unfoldable pub says : List ℕ → ℕ → ℕ → Bool
says w k d = any (entries state_layout w) λ i. eqb (kind_at w i) k && eqb (object_at w i) d

-- some fact is of this kind and this pair of objects
unfoldable pub says_pair : List ℕ → ℕ → ℕ → ℕ → Bool
says_pair w k d e =
    any (entries state_layout w) λ i. eqb (kind_at w i) k && eqb (object_at w i) d && eqb (right_at state_layout w i) e

-- The first kinds put the object in that class; then come the attributes, with the object as first of a pair,
-- and then the constants and the marks whose object it is. (One without an object gets N, which is none.)
-- (A number past the last of its sort reads facts of other kinds; nothing that is accepted asks for one.)
unfoldable pub state_of : List ℕ → State
state_of w =
    record {
      size = objects w;
      members = λ A d. says w A d;
      pairs = λ P d e. says_pair w (attribute_kinds + P) d e;
      names = λ a. least (objects w) λ d. says w (constant_kinds + a) d;
      marks = λ k. least (objects w) λ d. says w (mark_kinds + k) d;
    }
