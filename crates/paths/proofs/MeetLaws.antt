-- "Common object": the relation of a path grows by a step, since a fact that carries a row is a pair by which the step leads;
-- and what two relations share are the origins that lead to a common object.
use Prim.Native.Nat.{ℕ, ◌+◌, ◌*◌, ◌<◌}
use mathlib.Core.Bool.{Bool, true, false, So, not, ◌&&◌}
use mathlib.Core.List.{List}
use mathlib.Core.Logic.{inl}
use mathlib.Core.Path.{◌≡◌, sym, ap, subst, ◌∙◌}
use native.Mathlib.Decide.{dec_lt}
use native.Mathlib.Omega.{arith}
use borrow.Author.Tests.{eq-eqb, eqb-true, lt-ltb, le-ltb}
use lib.Dec.{ltb}
use Rattle.records.specs.Finite.{any}
use Rattle.records.specs.State.{State}
use Rattle.records.specs.Concept.{direction_of, Concept, common, Path, empty, step}
use Rattle.records.specs.Executable.{steps_to, is_in, leads_to}
use Rattle.records.specs.Layout.{state_layout, entries, attribute_kinds}
use Rattle.records.specs.StateRecord.{kind_at, state_of}
use Rattle.records.proofs.General.BoolLaws.{and_factor, and_both, and_map, and_three_map, and_right, test_same}
use Rattle.records.proofs.General.FiniteLaws.{any_of_lem, any_found, any_same, none_any}
use Rattle.index.specs.BitSet.{bit_at}
use Rattle.paths.specs.declared.relation.Bases.{Bases}
use Rattle.rows.specs.Selection.{Selection}
use Rattle.rows.specs.Rows.{row_bit}
use Rattle.rows.specs.Blocks.{block_bits, blocks_for, cell}
use Rattle.paths.specs.Steps.{along, end_at, Followable}
use Rattle.paths.specs.Landings.{Landing}
use Rattle.paths.specs.Relation.{Diagonal, carries, Stepped, Related, Shared}
use Rattle.paths.proofs.StepLaws.{size_of, end_in, end_few, steps_of, steps_found}
use Rattle.paths.proofs.ReachLaws.{hold}

pub empty_related : {I : State} {b : Bases} {n : ℕ} {ws vs : List ℕ} → n ≡ I.size → Diagonal n b ws vs → Related I empty b ws vs
empty_related {I} {b} {n} e z =
    record {
      size = z.size;
      bits = λ t o l m. z.bits t o (omega arith) m
          ∙ test_same _ _ (λ h. and_both _ _ (lt-ltb o I.size (omega (arith, eqb-true o t h))) h) (λ h. and_right (ltb o I.size) _ h);
      kept = λ k o out _ m. z.kept k o (rw e out) m;
    }

module _ {v : List ℕ} (back : Bool) (P : ℕ) {C : Concept} {landings : List ℕ} {a : ℕ} (ok : Followable v (along back P))
    (on : Landing v C landings a) where
  -- the path's relation, in the spare rows, has become that of the path with the step
  pub step_related : {p : Path} {rel spare k : ℕ} {us ws vs : List ℕ}
      → Related (state_of v) p (record { rel = spare; spare = rel; blocks = k }) us ws
      → Stepped v (along back P) landings a (record { rel = rel; spare = spare; blocks = k }) ws (entries state_layout v) vs
      → Related (state_of v) (step p (direction_of back) P C) (record { rel = rel; spare = spare; blocks = k }) us vs
  step_related {p} {rel} {spare} {k} {us} {ws} {vs} r h =
      record {
        size = h.size ∙ r.size;
        bits = λ t o l m. h.bits t o (rw (size_of v) l) m ∙ test_same _ _ (there t o l m) (again t o l m);
        kept = λ i o x y m. h.kept i o (rw (size_of v) x) m ∙ r.kept i o y x m;
      }
    where
      bases : Bases
      bases = record { rel = rel; spare = spare; blocks = k }

      -- c leads to t by the step, after o to c by the path
      by : ℕ → ℕ → ℕ → Bool
      by t o c = leads_to (state_of v) p o c && steps_to (state_of v) (direction_of back) P c t && is_in (state_of v) C t

      there : (t o : ℕ) → t < (state_of v).size → o < k * block_bits → So (any (entries state_layout v) (carries v (along back P) landings a bases ws t o))
          → So (ltb o (state_of v).size && any (state_of v).size (by t o))
      there t o l m e =
          let (i, j, q) = any_found (carries v (along back P) landings a bases ws t o) (entries state_layout v) e in
          let (first, second) = and_map (and_map (eqb-true (kind_at v i) (attribute_kinds + P)) (hold (row_bit landings a (end_at v (not back) i))))
          (and_map (eqb-true t (end_at v (not back) i)) (hold (cell k ws (spare + end_at v back i) o))) q
          in
          let (kind, lies) = first in
          let (at, row) = second in
          let (inside, leads) = and_map (hold (ltb o (state_of v).size)) (hold (leads_to (state_of v) p o (end_at v back i))) (sym (r.bits (end_at v back i) o (end_in ok back i j) m) ∙ row) in
          let is = and_right (ltb (end_at v (not back) i) (state_of v).size) _ (sym (on.bits _ (end_few ok (not back) i j)) ∙ lies) in
          and_both _ _ inside
          (any_of_lem (by t o) (state_of v).size (end_at v back i) (end_in ok back i j)
          (subst (λ (u : ℕ). So (by u o (end_at v back i))) (sym at) (and_both _ _ (and_both _ _ leads (steps_of v back P i j kind)) is)))

      again : (t o : ℕ) → t < (state_of v).size → o < k * block_bits → So (ltb o (state_of v).size && any (state_of v).size (by t o))
          → So (any (entries state_layout v) (carries v (along back P) landings a bases ws t o))
      again t o l m e =
          let (inside, found) = and_map (hold (ltb o (state_of v).size)) (any_found (by t o) (state_of v).size) e in
          let (c, n, u) = found in
          let (leads, steps, is) = and_three_map (hold (leads_to (state_of v) p o c)) (steps_found v back P c t) (hold (is_in (state_of v) C t)) u in
          let (i, j, kind, from, to) = steps in
          any_of_lem (carries v (along back P) landings a bases ws t o) (entries state_layout v) i j
          (and_both _ _ (and_both _ _ (eq-eqb (kind_at v i) (attribute_kinds + P) kind)
          (on.bits _ (end_few ok (not back) i j) ∙ rw to (and_both _ _ (lt-ltb t (state_of v).size l) is)))
          (and_both _ _ (eq-eqb t (end_at v (not back) i) (sym to)) (rw from (r.bits c o n m ∙ and_both _ _ inside leads))))

-- What two relations share.

any_factor : (n : ℕ) (b : Bool) (f g : ℕ → Bool) → ((t : ℕ) → t < n → g t ≡ (b && f t)) → any n g ≡ (b && any n f)
any_factor n true f g h = any_same g f n (λ t l _. h t l)
any_factor n false f g h = none_any g n h

-- the first relation, which the second leaves as it is, and the second
pub common_selection : {I : State} {p q : Path} {n k : ℕ} {us ws vs set : List ℕ} → n ≡ I.size → k ≡ blocks_for n
    → Related I p (record { rel = 0; spare = 2 * n; blocks = k }) us ws
    → Related I q (record { rel = n; spare = 2 * n; blocks = k }) ws vs
    → Shared n (record { rel = 0; spare = n; blocks = k }) vs set
    → Selection I (common p q) set
common_selection {I} {p} {q} {n} {k} {us} {ws} {vs} {set} e c r s h =
    record { size = h.size; bits = λ d l. pick d (dec_lt d (k * block_bits)) }
  where
    pick : (d : ℕ) → Dec (d < k * block_bits) → bit_at set d ≡ (ltb d I.size && any I.size λ t. leads_to I p d t && leads_to I q d t)
    pick d (yes l) =
        h.bits d l ∙ ap (λ (m : ℕ). any m λ t. cell k vs (0 + t) d && cell k vs (n + t) d) e
        ∙ any_factor I.size (ltb d I.size) (λ t. leads_to I p d t && leads_to I q d t) (λ t. cell k vs (0 + t) d && cell k vs (n + t) d)
        (λ t m. rw (s.kept (0 + t) d (inl (omega arith)) (inl (omega arith)) l, r.bits t d m l, s.bits t d m l) (and_factor (ltb d I.size) _ _))
    pick d (no l) =
        h.none d (omega arith)
        ∙ sym (ap (λ (b : Bool). b && any I.size λ t. leads_to I p d t && leads_to I q d t) (le-ltb d I.size (omega arith)))
