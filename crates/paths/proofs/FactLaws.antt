-- What the facts of an accepted state tell: they name objects of the state, and the index says which.
use Prim.Native.Nat.{ℕ, ◌+◌, ◌≤◌, ◌<◌}
use mathlib.Core.Bool.{Bool, true, false, So, ◌&&◌}
use mathlib.Core.List.{List}
use mathlib.Core.Path.{◌≡◌, refl, sym, ap, ◌∙◌}
use native.Mathlib.Omega.{arith}
use borrow.Author.Tests.{lt-ltb, ltb-true, eq-eqb, eqb-true}
use lib.Dec.{eqb, ltb}
use Rattle.records.specs.declared.schema.Signature.{Signature}
use Rattle.records.specs.Finite.{count}
use Rattle.records.specs.Layout.{state_layout, entries, constant_kinds, mark_kinds, max_constants, max_marks, max_objects}
use Rattle.records.specs.StateRecord.{objects, kind_at, object_at, says, state_of}
use Rattle.records.specs.StateRefusal.{names_at, marks_at}
use Rattle.records.specs.Marks.{allows}
use Rattle.records.proofs.General.BoolLaws.{and_left, and_right, and_both, test_same}
use Rattle.records.proofs.General.FiniteLaws.{any_found, count_found, count_same}
use Rattle.records.proofs.AcceptedLaws.{passes_7, passes_10, objects_few, constant_once, mark_once}
use Rattle.records.proofs.FactLaws.{says_iff, object_inside, second_inside}
use Rattle.records.proofs.FactLaws.{name_is, mark_names, marks_names}
use Rattle.paths.specs.Evaluable.{Evaluable}
use Rattle.paths.specs.Steps.{end_at}

module _ {s : Signature} {w v : List ℕ} (ok : Evaluable s w v) where
  pub objects_room : objects v ≤ max_objects
  objects_room = objects_few v (passes_7 s v ok.accepted)

  pub end_inside : (second : Bool) (i : ℕ) → i < entries state_layout v → end_at v second i < objects v
  end_inside true = second_inside s v ok.accepted
  end_inside false = object_inside s v ok.accepted

  -- A kind's objects.

  says_at : (k d : ℕ) → So (says v k d) → (i : ℕ) × (i < entries state_layout v) × (kind_at v i ≡ k) × (object_at v i ≡ d)
  says_at k d t = let (i, l, e) = (says_iff v k d).0 t in (i, l, e.0, e.1)

  says_of : (i : ℕ) → i < entries state_layout v → So (says v (kind_at v i) (object_at v i))
  says_of i l = (says_iff v (kind_at v i) (object_at v i)).1 (i, l, (refl, refl))

  pub says_inside : (k d : ℕ) → (ltb d (objects v) && says v k d) ≡ says v k d
  says_inside k d =
      test_same _ _ (λ t. and_right (ltb d (objects v)) _ t)
      (λ t. let (i, l, p, q) = says_at k d t in and_both _ _ (lt-ltb d (objects v) (rw q at (end_inside false i l))) t)

  -- A constant that just one fact names has one object.
  says_once : (a d : ℕ) → count (entries state_layout v) (names_at v a) ≡ 1
      → says v (constant_kinds + a) d ≡ (ltb d (objects v) && eqb d ((state_of v).names a))
  says_once a d once =
      test_same _ _ (λ t. let (i, m, p, q) = says_at (constant_kinds + a) d t in
      and_both _ _ (lt-ltb d (objects v) (rw q at (end_inside false i m))) (eq-eqb d ((state_of v).names a) (sym q ∙ sym (named i m (eq-eqb (kind_at v i) _ p)))))
      (λ t. let (i, m, p) = any_found (names_at v a) (entries state_layout v) (count_found (names_at v a) (entries state_layout v) (omega (arith, once))) in
      let k : kind_at v i ≡ constant_kinds + a = eqb-true (kind_at v i) (constant_kinds + a) p in
      let q : object_at v i ≡ d = sym (named i m p) ∙ sym (eqb-true d ((state_of v).names a) (and_right (ltb d (objects v)) _ t)) in
      rw (k, q) at (says_of i m))
    where
      named : (i : ℕ) → i < entries state_layout v → So (names_at v a i) → (state_of v).names a ≡ object_at v i
      named i m p = name_is v a once i m p (end_inside false i m)

  -- So has a declared constant, and so has a mark that is allowed.

  pub says_constant : (a d : ℕ) → a < s.constants → says v (constant_kinds + a) d ≡ (ltb d (objects v) && eqb d ((state_of v).names a))
  says_constant a d l = says_once a d (constant_once s v (passes_10 s v ok.accepted) a l)

  pub says_mark : (k d : ℕ) → So (allows s k) → says v (mark_kinds + k) d ≡ (ltb d (objects v) && eqb d ((state_of v).marks k))
  says_mark k d h =
      rw (marks_names v k)
      (ap (λ (kind : ℕ). says v kind d) (omega arith) ∙ says_once (max_constants + k) d once)
    where
      once : count (entries state_layout v) (names_at v (max_constants + k)) ≡ 1
      once =
          count_same (names_at v (max_constants + k)) (marks_at v k) (entries state_layout v) (λ i l. mark_names v k i)
          ∙ mark_once s v (passes_10 s v ok.accepted) k (ltb-true k max_marks (and_left _ _ h)) h
