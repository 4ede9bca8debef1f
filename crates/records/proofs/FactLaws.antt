-- What the facts of a state say: that some fact is of a kind and an object (says_iff), or a pair of a kind (pair_iff), or gives a
-- constant or a mark its object (name_is); and the objects that faultless facts name are inside.
use Prim.Native.Nat.{ℕ, ◌+◌, ◌-◌, ◌<◌}
use mathlib.Core.Bool.{Bool, true, false, So, cond, not, ◌&&◌, ◌||◌}
use mathlib.Core.List.{List}
use mathlib.Core.Logic.{◌↔◌}
use mathlib.Core.Path.{◌≡◌, refl, ap}
use native.Mathlib.Nat.{le_of_lt}
use native.Mathlib.Omega.{arith}
use borrow.Author.Tests.{eq-eqb, ltb-true, leb-false, eqb-true, not-false}
use lib.Dec.{eqb, ltb, leb}
use Rattle.records.specs.declared.schema.Signature.{Signature}
use Rattle.records.specs.Finite.{count, least}
use Rattle.records.specs.Layout.{state_layout, entries, right_at, attribute_kinds, constant_kinds, mark_kinds, fact_kinds, max_constants, max_marks}
use Rattle.records.specs.Marks.{allows}
use Rattle.records.specs.StateRecord.{objects, kind_at, object_at, says, says_pair, state_of}
use Rattle.records.specs.StateRefusal.{declares_kind, names_at, marks_at, faulty_fact, AcceptedState}
use Rattle.records.proofs.General.BoolLaws.{or_false_left, or_false_right, and_left, and_right, and_both, false_of, and_iff, and_three_iff}
use Rattle.records.proofs.General.FiniteLaws.{any_iff, any_of_lem, none_any, count_one, least_is}
use Rattle.records.proofs.ExecutableLaws.{eqb_iff}
use Rattle.records.proofs.AcceptedLaws.{passes_8, fact_faultless}

pub says_iff : (w : List ℕ) (k d : ℕ) → So (says w k d) ↔ ((f : ℕ) × (f < entries state_layout w) × ((kind_at w f ≡ k) × (object_at w f ≡ d)))
unfolding says
says_iff w k d = any_iff λ f. and_iff (eqb_iff (kind_at w f) k) (eqb_iff (object_at w f) d)

-- some fact is the pair (d, e) of kind k
abbrev pub PairFact : List ℕ → ℕ → ℕ → ℕ → Type 0
PairFact w k d e = (f : ℕ) × (f < entries state_layout w) × ((kind_at w f ≡ k) × (object_at w f ≡ d) × (right_at state_layout w f ≡ e))

pub pair_iff : (w : List ℕ) (k d e : ℕ) → So (says_pair w k d e) ↔ PairFact w k d e
unfolding says_pair
pair_iff w k d e = any_iff λ f. and_three_iff (eqb_iff (kind_at w f) k) (eqb_iff (object_at w f) d) (eqb_iff (right_at state_layout w f) e)

pub pair_of : (w : List ℕ) (k f : ℕ) → f < entries state_layout w → kind_at w f ≡ k → So (says_pair w k (object_at w f) (right_at state_layout w f))
pair_of w k f l e = (pair_iff w k (object_at w f) (right_at state_layout w f)).1 (f, l, (e, refl, refl))

-- A constant that just one fact names has that fact's object.
module _ (w : List ℕ) (a : ℕ) (one : count (entries state_layout w) (names_at w a) ≡ 1) where
  pub name_is : (j : ℕ) → j < entries state_layout w → So (names_at w a j) → object_at w j < objects w → (state_of w).names a ≡ object_at w j
  unfolding state_of says
  name_is j l p inside =
      least_is (λ d. says w (constant_kinds + a) d) (objects w) (object_at w j) (le_of_lt inside)
      (λ _. any_of_lem (says_at (object_at w j)) (entries state_layout w) j l (and_both (names_at w a j) _ p (eq-eqb (object_at w j) (object_at w j) refl)))
      (λ d m. none_any (says_at d) (entries state_layout w) (λ i h. false_of _ (λ t. other d m i h t)))
    where
      says_at : ℕ → ℕ → Bool
      says_at d i = names_at w a i && eqb (object_at w i) d

      other : (d : ℕ) → d < object_at w j → (i : ℕ) → i < entries state_layout w → So (names_at w a i && eqb (object_at w i) d) → ⊥
      other d m i h t =
          let same : object_at w i ≡ object_at w j =
          ap (λ (k : ℕ). object_at w k) (count_one (names_at w a) (entries state_layout w) one i j h l (and_left (names_at w a i) _ t) p)
          in
          let hit : object_at w i ≡ d = eqb-true (object_at w i) d (and_right (names_at w a i) _ t) in
          omega arith

-- Marks stand after the constants: mark k is read as constant 4 + k would be.
pub mark_names : (w : List ℕ) (k i : ℕ) → names_at w (max_constants + k) i ≡ marks_at w k i
mark_names w k i = ap (eqb (kind_at w i)) (omega arith)

pub marks_names : (w : List ℕ) (k : ℕ) → (state_of w).marks k ≡ (state_of w).names (max_constants + k)
unfolding state_of
marks_names w k = ap (λ (m : ℕ). least (objects w) λ d. says w m d) (omega arith)

-- a fact without a fault: its kind is one of the record's, and its object is inside
pub fact_kind : (s : Signature) (w : List ℕ) (i : ℕ) → faulty_fact s w i ≡ false → kind_at w i < fact_kinds
unfolding faulty_fact
fact_kind s w i e = pick (ltb (kind_at w i) attribute_kinds) refl (ltb (kind_at w i) constant_kinds) refl (ltb (kind_at w i) mark_kinds) refl (not-false _ (or_false_left _ _ (or_false_left _ _ e)))
  where
    pick : (t : Bool) → ltb (kind_at w i) attribute_kinds ≡ t → (u : Bool) → ltb (kind_at w i) constant_kinds ≡ u → (v : Bool) → ltb (kind_at w i) mark_kinds ≡ v
        → So (cond t (ltb (kind_at w i) s.classes) (cond u (ltb (kind_at w i - attribute_kinds) s.attributes) (cond v (ltb (kind_at w i - constant_kinds) s.constants) (allows s (kind_at w i - mark_kinds)))))
        → kind_at w i < fact_kinds
    pick true p u q v r h = omega (arith, ltb-true (kind_at w i) attribute_kinds p)
    pick false p true q v r h = omega (arith, ltb-true (kind_at w i) constant_kinds q)
    pick false p false q true r h = omega (arith, ltb-true (kind_at w i) mark_kinds r)
    pick false p false q false r h = omega (arith, ltb-true (kind_at w i - mark_kinds) max_marks (and_left _ _ h))

pub fact_object : (s : Signature) (w : List ℕ) (i : ℕ) → faulty_fact s w i ≡ false → object_at w i < objects w
unfolding faulty_fact
fact_object s w i e = leb-false (objects w) (object_at w i) (or_false_right (not (declares_kind s (kind_at w i))) _ (or_false_left _ _ e))

-- a pair's second object, and 0 in any other fact
pub fact_second : (s : Signature) (w : List ℕ) (i : ℕ) → faulty_fact s w i ≡ false → right_at state_layout w i < objects w
unfolding faulty_fact
fact_second s w i e = pick (leb attribute_kinds (kind_at w i) && ltb (kind_at w i) constant_kinds) (not-false _ (or_false_right (not (declares_kind s (kind_at w i)) || leb (objects w) (object_at w i)) _ e))
  where
    pick : (t : Bool) → So (cond t (ltb (right_at state_layout w i) (objects w)) (eqb (right_at state_layout w i) 0)) → right_at state_layout w i < objects w
    pick true h = ltb-true (right_at state_layout w i) (objects w) h
    pick false h = omega (arith, eqb-true (right_at state_layout w i) 0 h, fact_object s w i e)

module _ (s : Signature) (w : List ℕ) (ok : AcceptedState s w) where
  pub object_inside : (f : ℕ) → f < entries state_layout w → object_at w f < objects w
  object_inside f l = fact_object s w f (fact_faultless s w (passes_8 s w ok) f l)

  pub second_inside : (f : ℕ) → f < entries state_layout w → right_at state_layout w f < objects w
  second_inside f l = fact_second s w f (fact_faultless s w (passes_8 s w ok) f l)
