-- Document 01, "Turned back": the refusals of a state, each a test named by its number, and the answer of its check: the first
-- that applies, or nothing for an accepted state.
use Rattle.std.specs.Prelude.{ℕ, suc, ◌+◌, ◌-◌, List, Bool, cond, not, ◌&&◌, ◌||◌, ◌≡◌, eqb, ltb, leb, Result, Ok, Err}
use Rattle.records.specs.declared.schema.Signature.{Signature}
use Rattle.records.specs.declared.refusal.Refusal.{Refusal}
use Rattle.records.specs.declared.refusal.Refusal.TheVariants as refusal
use Rattle.records.specs.Finite.{any, count}
use Rattle.records.specs.State.{repeats}
use Rattle.records.specs.Layout.{state_layout, entries, left_at, right_at, max_objects, max_facts, attribute_kinds, constant_kinds, mark_kinds, max_marks}
use Rattle.records.specs.StateRecord.{objects, class_facts, kind_at, object_at, is_class_fact, state_of}
use Rattle.records.specs.Marks.{allows}
use Rattle.records.specs.Shape.{misshapen}

-- 7. A state has fewer words than its sizes, a size above its limit, or a length other than its entries make.
unfoldable pub refusal_7 : List ℕ → Bool
refusal_7 w = ltb max_objects (objects w) || ltb max_facts (entries state_layout w) || misshapen state_layout w

-- the fact kind is one of a declared class, attribute or constant, or of an allowed mark
abbrev pub declares_kind : Signature → ℕ → Bool
declares_kind s k =
    cond (ltb k attribute_kinds) (ltb k s.classes)
    (cond (ltb k constant_kinds) (ltb (k - attribute_kinds) s.attributes)
    (cond (ltb k mark_kinds) (ltb (k - constant_kinds) s.constants)
    (allows s (k - mark_kinds))))

-- the second object of a pair, otherwise 0
abbrev pub suits_kind : ℕ → ℕ → ℕ → Bool
suits_kind n k right = cond (leb attribute_kinds k && ltb k constant_kinds) (ltb right n) (eqb right 0)

unfoldable pub faulty_fact : Signature → List ℕ → ℕ → Bool
faulty_fact s w i =
    not (declares_kind s (kind_at w i))
    || leb (objects w) (object_at w i)
    || not (suits_kind (objects w) (kind_at w i) (right_at state_layout w i))

-- 8. A fact has a kind above the last, an undeclared class, attribute or constant, a mark that is not allowed, an object not
-- below N, or a right word other than 0 where no pair is meant.
unfoldable pub refusal_8 : Signature → List ℕ → Bool
refusal_8 s w = any (entries state_layout w) (faulty_fact s w)

-- fact i stands before the next one by left, then by right
unfoldable pub ascends : List ℕ → ℕ → Bool
ascends w i =
    ltb (left_at state_layout w i) (left_at state_layout w (suc i))
    || eqb (left_at state_layout w i) (left_at state_layout w (suc i)) && ltb (right_at state_layout w i) (right_at state_layout w (suc i))

abbrev pub descends : List ℕ → ℕ → Bool
descends w i = not (ascends w i)

-- 9. The facts do not ascend strictly.
unfoldable pub refusal_9 : List ℕ → Bool
refusal_9 w = any (entries state_layout w - 1) (descends w)

-- 15. The third size word is not the number of the class facts. (Document 02, note 7.)
unfoldable pub refusal_15 : List ℕ → Bool
refusal_15 w = not (eqb (class_facts w) (count (entries state_layout w) (is_class_fact w)))

-- fact i gives constant a its object
abbrev pub names_at : List ℕ → ℕ → ℕ → Bool
names_at w a i = eqb (kind_at w i) (constant_kinds + a)

-- constant a has no object or several, or clashes with an earlier one
-- (facts that ascend strictly are different, so it has as many objects as facts)
abbrev pub misnames : Signature → List ℕ → ℕ → Bool
misnames s w a = not (eqb (count (entries state_layout w) (names_at w a)) 1) || repeats s (state_of w).names a

-- fact i gives mark k its object
abbrev pub marks_at : List ℕ → ℕ → ℕ → Bool
marks_at w k i = eqb (kind_at w i) (mark_kinds + k)

-- mark k is allowed, and has no object or several
abbrev pub mismarks : Signature → List ℕ → ℕ → Bool
mismarks s w k = allows s k && not (eqb (count (entries state_layout w) (marks_at w k)) 1)

-- 10. A declared constant or an allowed mark has no object or several, or two constants, neither of them loose, have the same
-- object.
unfoldable pub refusal_10 : Signature → List ℕ → Bool
refusal_10 s w = any s.constants (misnames s w) || any max_marks (mismarks s w)

unfoldable pub state_answer : Signature → List ℕ → Result (Unit {0}) Refusal
state_answer s w =
    cond (refusal_7 w) (Err refusal.StateShape)
    (cond (refusal_8 s w) (Err refusal.StateFact)
    (cond (refusal_9 w) (Err refusal.StateOrder)
    (cond (refusal_15 w) (Err refusal.StateClassFacts)
    (cond (refusal_10 s w) (Err refusal.StateNames)
    (Ok tt)))))

-- A record is accepted if it gets none of its refusals.
abbrev pub AcceptedState : Signature → List ℕ → Type 0
AcceptedState s w = state_answer s w ≡ Ok tt
