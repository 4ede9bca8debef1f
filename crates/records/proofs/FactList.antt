-- A list that has just the facts of a state, in ascending order (Lists), makes an accepted record (list_accepted), and that of
-- a state which is alike (list_alike), if the state and the list are within the limits of records.
use Prim.Native.Nat.{ℕ, suc, ◌+◌, ◌-◌, ◌≤◌, ◌<◌}
use native.Mathlib.Omega.{arith}
use mathlib.Core.Bool.{Bool, true, false, So, not, ◌&&◌}
use mathlib.Core.List.{List}
use mathlib.Core.Path.{◌≡◌, refl, sym, ap, subst, subst₂, ◌∙◌}
use lib.Dec.{eqb}
use lib.ListN.{length, get_or}
use borrow.Author.Tests.{eq-eqb, eqb-true, lt-ltb, le-ltb, le-leb, lt-leb}
use Rattle.records.specs.declared.schema.Signature.{Signature}
use Rattle.records.specs.Finite.{any, count}
use Rattle.records.specs.Layout.{state_layout, entries, max_classes, max_attributes, max_constants, max_marks, max_objects, max_facts, attribute_kinds, constant_kinds, mark_kinds}
use Rattle.records.specs.Marks.{allows}
use Rattle.records.specs.State.{State, Member, Related, Names}
use Rattle.records.specs.StateRecord.{objects, kind_at, object_at, state_of}
use Rattle.records.specs.StateRefusal.{faulty_fact, ascends, descends, names_at, misnames, marks_at, mismarks, refusal_7, refusal_8, refusal_9, refusal_10, AcceptedState}
use Rattle.records.specs.Encoding.{fact, right_word, state_record, name_fact, mark_fact}
use Rattle.records.proofs.EncodingLaws.{kind_of, object_in, fact_parts, state_objects, state_facts, state_counted, state_left, state_right, state_kind, state_object, state_shaped}
use Rattle.records.proofs.General.FiniteLaws.{none_any, count_same}
use Rattle.records.proofs.NamesLaws.{repeats_none}
use Rattle.records.proofs.AcceptedLaws.{state_accepted}
use Rattle.records.proofs.FactLaws.{name_is, mark_names, marks_names}
use Rattle.records.proofs.General.AllLaws.{Mem}
use Rattle.records.proofs.General.ListLaws.{at_mem, mem_at}
use Rattle.records.proofs.General.CountLaws.{count_once}
use Rattle.records.proofs.General.Ascending.{Ascends, ascends_at_lem, ascends_same}
use Rattle.records.proofs.Alike.{Alike}
use Rattle.records.proofs.FactOf.{FactOf, of_class, of_pair, of_name, of_mark, word_order, Sound, sound_of}
use Rattle.records.proofs.RecordLaws.{record_says, record_says_pair}

-- the list has just these, in order
pub record Lists (s : Signature) (I : State) (l : List ℕ) : Type 0 where
  pub ascends : Ascends l
  pub sound : (f : ℕ) → Mem f l → FactOf s I f
  pub whole : (f : ℕ) → FactOf s I f → Mem f l

-- the limits of records
pub record Limited (s : Signature) (I : State) (l : List ℕ) : Type 0 where
  pub classes : s.classes ≤ max_classes
  pub attributes : s.attributes ≤ max_attributes
  pub constants : s.constants ≤ max_constants
  pub objects : I.size ≤ max_objects
  pub facts : length l ≤ max_facts

module _ (s : Signature) (I : State) (l : List ℕ) (limits : Limited s I l) (names : Names s I)
    (marks : (k : ℕ) → So (allows s k) → I.marks k < I.size) (lists : Lists s I l) where
  abbrev w : List ℕ
  w = state_record I.size l

  fact_sound : {f : ℕ} → FactOf s I f → Sound s I.size f
  fact_sound (of_class A d h k x) =
      sound_of s I.size A d 0 (omega (arith, limits.objects)) (omega arith)
      (rw (lt-ltb A attribute_kinds (omega (arith, limits.classes))) (lt-ltb A s.classes h)) k
      (rw (lt-leb attribute_kinds A (omega (arith, limits.classes))))
  fact_sound (of_pair P d e h k j x) =
      let K = attribute_kinds + P in
      let low : attribute_kinds ≤ K = omega arith in
      let high : K < constant_kinds = omega (arith, limits.attributes) in
      sound_of s I.size K d e (omega (arith, limits.objects)) (omega (arith, limits.objects))
      (rw (le-ltb K attribute_kinds low, lt-ltb K constant_kinds high) (lt-ltb (K - attribute_kinds) s.attributes (omega arith))) k
      (rw (le-leb attribute_kinds K low, lt-ltb K constant_kinds high) (lt-ltb e I.size j))
  fact_sound (of_name a h) =
      let K = constant_kinds + a in
      let inside = names.inside a h in
      sound_of s I.size K (I.names a) 0 (omega (arith, limits.objects)) (omega arith)
      (rw (le-ltb K attribute_kinds (omega arith), le-ltb K constant_kinds (omega arith), lt-ltb K mark_kinds (omega (arith, limits.constants)))
      (lt-ltb (K - constant_kinds) s.constants (omega arith))) inside
      (rw (le-leb attribute_kinds K (omega arith), le-ltb K constant_kinds (omega arith)))
  fact_sound (of_mark k h) =
      let K = mark_kinds + k in
      sound_of s I.size K (I.marks k) 0 (omega (arith, limits.objects, marks k h)) (omega arith)
      (rw (le-ltb K attribute_kinds (omega arith), le-ltb K constant_kinds (omega arith), le-ltb K mark_kinds (omega arith))
      (let e : k ≡ K - mark_kinds = omega arith in subst (λ (j : ℕ). So (allows s j)) e h)) (marks k h)
      (rw (le-leb attribute_kinds K (omega arith), le-ltb K constant_kinds (omega arith)))

  entry_sound : (i : ℕ) → i < length l → Sound s I.size (get_or l i 0)
  entry_sound i h = fact_sound (lists.sound (get_or l i 0) (at_mem l i h))

  -- the parts of a fact tell what it says
  class_told : {f : ℕ} (A d : ℕ) → A < s.classes → FactOf s I f → kind_of f ≡ A → object_in f ≡ d → Member I A d
  class_told A d h (of_class B c g k x) p q =
      subst₂ (Member I) (omega (arith, limits.objects)) (omega (arith, limits.objects)) x
  class_told A d h (of_pair P c e g k j x) p q = absurd (omega (arith, limits.classes, limits.objects))
  class_told A d h (of_name a g) p q = absurd (omega (arith, limits.classes, limits.objects, names.inside a g))
  class_told A d h (of_mark k g) p q = absurd (omega (arith, limits.classes, limits.objects, marks k g))

  pair_told : {f : ℕ} (P d e : ℕ) → P < s.attributes → FactOf s I f → kind_of f ≡ attribute_kinds + P → object_in f ≡ d → right_word f ≡ e
      → Related I P d e
  pair_told P d e h (of_class B c g k x) p q r = absurd (omega (arith, limits.classes, limits.objects))
  pair_told P d e h (of_pair R c b g k j x) p q r =
      let parts = fact_parts (attribute_kinds + R) c b (omega (arith, limits.objects)) (omega (arith, limits.objects)) in
      let o : b ≡ e = omega (arith, parts.2) in
      subst (Related I P d) o (subst₂ (λ (Q i : ℕ). Related I Q i b) (omega (arith, parts.0)) (omega (arith, parts.1)) x)
  pair_told P d e h (of_name a g) p q r = absurd (omega (arith, limits.attributes, limits.objects, names.inside a g))
  pair_told P d e h (of_mark k g) p q r = absurd (omega (arith, limits.attributes, limits.objects, marks k g))

  name_told : (a : ℕ) → a < s.constants → {f : ℕ} → FactOf s I f → kind_of f ≡ constant_kinds + a → f ≡ name_fact a (I.names a)
  name_told a h (of_class B c g k x) p = absurd (omega (arith, limits.classes, limits.objects))
  name_told a h (of_pair R c b g k j x) p = absurd (omega (arith, limits.attributes, limits.objects))
  name_told a h (of_name b g) p =
      let e : b ≡ a = omega (arith, limits.objects, names.inside b g) in ap (λ (c : ℕ). name_fact c (I.names c)) e
  name_told a h (of_mark k g) p = absurd (omega (arith, limits.constants, limits.objects, marks k g))

  mark_told : (k : ℕ) {f : ℕ} → FactOf s I f → kind_of f ≡ mark_kinds + k → f ≡ mark_fact k (I.marks k)
  mark_told k (of_class B c g i x) p = absurd (omega (arith, limits.classes, limits.objects))
  mark_told k (of_pair R c b g i j x) p = absurd (omega (arith, limits.attributes, limits.objects))
  mark_told k (of_name b g) p = absurd (omega (arith, limits.constants, limits.objects, names.inside b g))
  mark_told k (of_mark j g) p =
      let e : j ≡ k = omega (arith, limits.objects, marks j g) in ap (λ (c : ℕ). mark_fact c (I.marks c)) e

  -- A constant or a mark, the marks after the constants, whose object is o and which has one fact: what the record reads of it.
  module _ (a o : ℕ) (inside : o < I.size) (one : FactOf s I (name_fact a o))
      (told : (f : ℕ) → FactOf s I f → kind_of f ≡ constant_kinds + a → f ≡ name_fact a o) where
    place : (i : ℕ) × (i < length l) × (get_or l i 0 ≡ name_fact a o)
    place = mem_at (name_fact a o) l (lists.whole (name_fact a o) one)

    names_at_lem : (i : ℕ) → i < length l → get_or l i 0 ≡ name_fact a o → So (names_at w a i) × (object_at w i ≡ o)
    names_at_lem i b q = (
      eq-eqb (kind_at w i) (constant_kinds + a) (omega (arith, state_kind I.size l i b, limits.objects)),
      omega (arith, state_object I.size l i b, limits.objects),
    )

    names_once : count (entries state_layout w) (names_at w a) ≡ 1
    names_once =
        let (i, b, q) = place in
        count_once (names_at w a) (entries state_layout w) i (omega (arith, state_facts I.size l)) (names_at_lem i b q).0
        (λ j k t.
        let c : j < length l = omega (arith, state_facts I.size l) in
        ascends_same l lists.ascends j i c b
        (told (get_or l j 0) (lists.sound (get_or l j 0) (at_mem l j c))
        (sym (state_kind I.size l j c) ∙ eqb-true (kind_at w j) (constant_kinds + a) t) ∙ sym q))

    names_object : (state_of w).names a ≡ o
    names_object =
        let (i, b, q) = place in
        let (p, r) = names_at_lem i b q in
        name_is w a names_once i (omega (arith, state_facts I.size l)) p (omega (arith, state_objects I.size l)) ∙ r

  constant_once : (a : ℕ) → a < s.constants → count (entries state_layout w) (names_at w a) ≡ 1
  constant_once a h = names_once a (I.names a) (names.inside a h) (of_name a h) (λ f x p. name_told a h x p)

  list_names : (a : ℕ) → a < s.constants → (state_of w).names a ≡ I.names a
  list_names a h = names_object a (I.names a) (names.inside a h) (of_name a h) (λ f x p. name_told a h x p)

  module _ (k : ℕ) (h : So (allows s k)) where
    -- as a constant
    as_name : mark_fact k (I.marks k) ≡ name_fact (max_constants + k) (I.marks k)
    as_name = ap (λ (K : ℕ). fact K (I.marks k) 0) (omega arith)

    one_mark : FactOf s I (name_fact (max_constants + k) (I.marks k))
    one_mark = subst (FactOf s I) as_name (of_mark k h)

    told_mark : (f : ℕ) → FactOf s I f → kind_of f ≡ constant_kinds + (max_constants + k) → f ≡ name_fact (max_constants + k) (I.marks k)
    told_mark f x p = mark_told k x (omega arith) ∙ as_name

    mark_once : count (entries state_layout w) (marks_at w k) ≡ 1
    mark_once =
        sym (count_same (names_at w (max_constants + k)) (marks_at w k) (entries state_layout w) (λ i l. mark_names w k i))
        ∙ names_once (max_constants + k) (I.marks k) (marks k h) one_mark told_mark

    list_marks : (state_of w).marks k ≡ I.marks k
    list_marks = marks_names w k ∙ names_object (max_constants + k) (I.marks k) (marks k h) one_mark told_mark

  -- None of the refusals applies.

  shape : refusal_7 w ≡ false
  unfolding refusal_7
  shape =
      rw (
        le-ltb max_objects (objects w) (omega (arith, state_objects I.size l, limits.objects)),
        le-ltb max_facts (entries state_layout w) (omega (arith, state_facts I.size l, limits.facts)),
        state_shaped I.size l,
      )

  faultless : refusal_8 s w ≡ false
  unfolding refusal_8 faulty_fact
  faultless = none_any (faulty_fact s w) (entries state_layout w) λ i h.
      let b : i < length l = omega (arith, state_facts I.size l) in
      let ok = entry_sound i b in
      rw (
        state_objects I.size l,
        state_kind I.size l i b,
        state_object I.size l i b,
        state_right I.size l i b,
        ok.kind,
        lt-leb I.size (object_in (get_or l i 0)) ok.object,
        ok.right,
      )

  order : refusal_9 w ≡ false
  unfolding refusal_9 ascends
  order = none_any (descends w) (entries state_layout w - 1) λ i h.
      let b : suc i < length l = omega (arith, state_facts I.size l) in
      rw (
        state_left I.size l i (omega arith),
        state_left I.size l (suc i) b,
        state_right I.size l i (omega arith),
        state_right I.size l (suc i) b,
        word_order (get_or l i 0) (get_or l (suc i) 0) (ascends_at_lem l lists.ascends i (suc i) (omega arith) b),
      )

  constants : any s.constants (misnames s w) ≡ false
  constants = none_any (misnames s w) s.constants λ a h.
      rw (eq-eqb (count (entries state_layout w) (names_at w a)) 1 (constant_once a h))
      (repeats_none s (state_of w).names I.names a (λ b k q. sym (list_names b (omega arith)) ∙ q ∙ list_names a h) (names.apart a h))

  chosen : any max_marks (mismarks s w) ≡ false
  chosen = none_any (mismarks s w) max_marks λ k l. pick k (allows s k) refl
    where
      pick : (k : ℕ) (b : Bool) → allows s k ≡ b → (b && not (eqb (count (entries state_layout w) (marks_at w k)) 1)) ≡ false
      pick k true h = rw (eq-eqb (count (entries state_layout w) (marks_at w k)) 1 (mark_once k h))
      pick k false h = refl

  given : refusal_10 s w ≡ false
  unfolding refusal_10
  given = rw (constants, chosen)

  pub list_accepted : AcceptedState s w
  list_accepted = state_accepted s w shape faultless order (state_counted I.size l) given

  pub list_alike : Alike s I (state_of w)
  unfolding state_of
  list_alike =
      record {
        size = sym (state_objects I.size l);
        members = λ A d h k. (
          λ x. (record_says I.size l A d).1
              (fact A d 0, lists.whole (fact A d 0) (of_class A d h k x), omega (arith, limits.objects)),
          λ y. let (f, m, q) = (record_says I.size l A d).0 y in class_told A d h (lists.sound f m) q.0 q.1,
        );
        pairs = λ P d e h k j.
            let K = attribute_kinds + P in (
              λ x. (record_says_pair I.size l K d e).1
                  (fact K d e, lists.whole (fact K d e) (of_pair P d e h k j x), omega (arith, limits.objects)),
              λ y. let (f, m, q) = (record_says_pair I.size l K d e).0 y in pair_told P d e h (lists.sound f m) q.0 q.1 q.2,
            );
        names = λ a h. sym (list_names a h);
        marks = λ k h. sym (list_marks k h);
      }
