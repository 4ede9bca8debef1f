-- "Reached" from the path's end backward: at each step, what the whole path leads to is what its beginning leads to in a set.
use Prim.Native.Nat.{ℕ, ◌+◌, ◌≤◌, ◌<◌}
use mathlib.Core.Bool.{Bool, So, not, ◌&&◌, and-true}
use mathlib.Core.List.{List}
use mathlib.Core.Path.{◌≡◌, refl, sym, ◌∙◌}
use native.Mathlib.Omega.{arith}
use borrow.Author.Tests.{eq-eqb, eqb-true, lt-ltb, ltb-true}
use lib.Dec.{eqb, ltb}
use lib.ListN.{length}
use Rattle.records.specs.Finite.{any}
use Rattle.records.specs.State.{State}
use Rattle.records.specs.Concept.{direction_of, Concept, reached, Path, empty, step}
use Rattle.records.specs.Executable.{steps_to, is_in, leads_to}
use Rattle.records.specs.Layout.{object_part, state_layout, entries, attribute_kinds}
use Rattle.records.specs.StateRecord.{kind_at, state_of}
use Rattle.records.proofs.General.BoolLaws.{and_both, and_map, and_three_map, and_right, test_same}
use Rattle.records.proofs.General.FiniteLaws.{any_of_lem, any_found, any_same}
use Rattle.index.specs.BitSet.{bit_at}
use Rattle.rows.specs.Selection.{set_words, Selection}
use Rattle.rows.specs.Rows.{row_bit, Below}
use Rattle.paths.specs.Steps.{along, end_at, leads_into, Followable, Origins}
use Rattle.paths.specs.Landings.{Landing}
use Rattle.paths.proofs.StepLaws.{size_of, end_in, end_few, steps_of, steps_found}

-- The path p leads from an object to some object just where q leads from there into the set.
pub record Reaching (I : State) (p q : Path) (set : List ℕ) : Type 0 where
  pub size : length set ≡ set_words
  pub inside : (d : ℕ) → d < object_part → So (bit_at set d) → d < I.size
  pub same : (d : ℕ) → any I.size (leads_to I p d) ≡ any I.size λ e. leads_to I q d e && bit_at set e

pub hold : (b : Bool) → So b → So b
hold b h = h

module _ {I : State} {p : Path} (few : I.size ≤ object_part) where
  pub reaching_all : {n : ℕ} {set : List ℕ} → n ≡ I.size → Below n set → Reaching I p p set
  reaching_all {n} {set} e h =
      record {
        size = h.size;
        inside = λ d l t. rw e at (ltb-true d n (sym (h.bits d l) ∙ t));
        same = λ d. any_same (leads_to I p d) (λ e. leads_to I p d e && bit_at set e) I.size λ c l _.
            sym (rw (h.bits c (omega arith), lt-ltb c n (omega arith)) (and-true (leads_to I p d c)));
      }

  pub reaching_end : {set : List ℕ} → Reaching I p empty set → Selection I (reached p) set
  reaching_end {set} z =
      record {
        size = z.size;
        bits = λ d l. sym (rw (z.same d) (test_same _ _ (there d) (back d l)));
      }
    where
      there : (d : ℕ) → So (ltb d I.size && any I.size λ e. eqb d e && bit_at set e) → So (bit_at set d)
      there d t =
          let (e, l, q) = any_found (λ e. eqb d e && bit_at set e) I.size (and_right (ltb d I.size) _ t) in
          let (is, on) = and_map (eqb-true d e) (hold (bit_at set e)) q in
          rw is on

      back : (d : ℕ) → d < object_part → So (bit_at set d) → So (ltb d I.size && any I.size λ e. eqb d e && bit_at set e)
      back d l t =
          and_both _ _ (lt-ltb d I.size (z.inside d l t))
          (any_of_lem (λ e. eqb d e && bit_at set e) I.size d (z.inside d l t) (and_both _ _ (eq-eqb d d refl) t))

module _ {v : List ℕ} (back : Bool) (P : ℕ) {C : Concept} {landings : List ℕ} {a : ℕ} (ok : Followable v (along back P))
    (on : Landing v C landings a) where
  -- what a fact that leads into the set says
  leads_says : (set : List ℕ) (o i : ℕ) → i < entries state_layout v → So (leads_into v (along back P) landings a set o i)
      → (kind_at v i ≡ attribute_kinds + P) × So (is_in (state_of v) C (end_at v (not back) i)) × So (bit_at set (end_at v (not back) i)) × (o ≡ end_at v back i)
  leads_says set o i l h =
      let ((kind, lies), into, from) = and_three_map (and_map (eqb-true (kind_at v i) (attribute_kinds + P)) (hold (row_bit landings a (end_at v (not back) i)))) (hold (bit_at set (end_at v (not back) i))) (eqb-true o (end_at v back i)) h in
      (kind, and_right (ltb (end_at v (not back) i) (state_of v).size) _ (sym (on.bits _ (end_few ok (not back) i l)) ∙ lies), into, from)

  pub reaching_more : {p q : Path} {set before : List ℕ} → Reaching (state_of v) p (step q (direction_of back) P C) set
      → Origins v (along back P) landings a set (entries state_layout v) before
      → Reaching (state_of v) p q before
  reaching_more {p} {q} {set} {before} z h =
      record {
        size = h.size;
        inside = λ d l t.
            let (i, j, m) = any_found (leads_into v (along back P) landings a set d) (entries state_layout v) (sym (h.bits d l) ∙ t) in
            let (kind, lies, into, from) = leads_says set d i j m in
            rw from (end_in ok back i j);
        same = λ d. z.same d ∙ test_same _ _ (there d) (again d);
      }
    where
      there : (d : ℕ) → So (any (state_of v).size λ e. leads_to (state_of v) (step q (direction_of back) P C) d e && bit_at set e)
          → So (any (state_of v).size λ c. leads_to (state_of v) q d c && bit_at before c)
      there d t =
          let (e, l, u) = any_found (λ e. leads_to (state_of v) (step q (direction_of back) P C) d e && bit_at set e) (state_of v).size t in
          let (leads, into) = and_map (any_found (λ c. leads_to (state_of v) q d c && steps_to (state_of v) (direction_of back) P c e && is_in (state_of v) C e) (state_of v).size) (hold (bit_at set e)) u in
          let (c, k, r) = leads in
          let (first, steps, is) = and_three_map (hold (leads_to (state_of v) q d c)) (steps_found v back P c e) (hold (is_in (state_of v) C e)) r in
          let (i, j, kind, from, to) = steps in
          any_of_lem (λ c. leads_to (state_of v) q d c && bit_at before c) (state_of v).size c k
          (and_both _ _ first
          (h.bits c (rw from at (end_few ok back i j))
          ∙ any_of_lem (leads_into v (along back P) landings a set c) (entries state_layout v) i j
          (and_both _ _
          (and_both _ _ (and_both _ _ (eq-eqb (kind_at v i) (attribute_kinds + P) kind)
          (on.bits _ (end_few ok (not back) i j) ∙ rw to (and_both _ _ (lt-ltb e (state_of v).size l) is)))
          (rw to into))
          (eq-eqb c (end_at v back i) (sym from)))))

      again : (d : ℕ) → So (any (state_of v).size λ c. leads_to (state_of v) q d c && bit_at before c)
          → So (any (state_of v).size λ e. leads_to (state_of v) (step q (direction_of back) P C) d e && bit_at set e)
      again d t =
          let (c, k, u) = any_found (λ c. leads_to (state_of v) q d c && bit_at before c) (state_of v).size t in
          let (first, back_in) = and_map (hold (leads_to (state_of v) q d c)) (hold (bit_at before c)) u in
          let (i, j, m) = any_found (leads_into v (along back P) landings a set c) (entries state_layout v) (sym (h.bits c (omega (arith, ok.room, size_of v, k))) ∙ back_in) in
          let (kind, lies, into, from) = leads_says set c i j m in
          any_of_lem (λ e. leads_to (state_of v) (step q (direction_of back) P C) d e && bit_at set e) (state_of v).size (end_at v (not back) i) (end_in ok (not back) i j)
          (and_both _ _
          (any_of_lem (λ c. leads_to (state_of v) q d c && steps_to (state_of v) (direction_of back) P c (end_at v (not back) i) && is_in (state_of v) C (end_at v (not back) i)) (state_of v).size (end_at v back i) (end_in ok back i j)
          (and_both _ _ (and_both _ _ (rw from at first) (steps_of v back P i j kind)) lies))
          into)
