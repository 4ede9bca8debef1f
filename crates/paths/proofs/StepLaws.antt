-- A step by the facts of its kind, from the end of a path backward: the set of the objects from which it leads into a set.
use Prim.Native.Nat.{ℕ, ◌+◌, ◌^◌, ◌≤◌, ◌<◌}
use mathlib.Core.Bool.{Bool, true, false, So, not, ◌&&◌}
use mathlib.Core.List.{List}
use mathlib.Core.Path.{◌≡◌, refl, sym, ap₂, ◌∙◌}
use native.Mathlib.Nat.{mod-eq_of_lt}
use native.Mathlib.Omega.{arith}
use borrow.Author.Tests.{eq-eqb, eqb-true}
use lib.ListN.{replicate}
use Rattle.records.specs.Layout.{object_part, state_layout, entries, left_at, right_at, attribute_kinds}
use Rattle.records.specs.Concept.{direction_of}
use Rattle.records.specs.Executable.{steps_to}
use Rattle.records.specs.StateRecord.{objects, kind_at, object_at, state_of}
use Rattle.records.proofs.General.BoolLaws.{and_left}
use Rattle.records.proofs.General.FiniteLaws.{any_more}
use Rattle.records.proofs.FactLaws.{pair_iff, pair_of}
use Rattle.index.specs.BitSet.{bit_at}
use Rattle.index.specs.Kinds.{KindParts}
use Rattle.index.proofs.BitSetLaws.{zero_bits}
use Rattle.index.proofs.KindLaws.{kind_before, kind_after, kind_within}
use Rattle.paths.specs.declared.steps.Step.{Step}
use Rattle.paths.specs.declared.steps.Ends.{Ends}
use Rattle.rows.specs.Selection.{set_words}
use Rattle.rows.specs.Rows.{row_bit, Row, SharedRow}
use Rattle.paths.specs.Steps.{end_at, target_at, leads_into, ends_from, ends_of, object_in, Followable, Led, Origins}
use Rattle.rows.proofs.RowLaws.{row_zero}

-- The ends of a fact are objects of the state.

pub size_of : (v : List ℕ) → objects v ≡ (state_of v).size
unfolding state_of
size_of v = refl

module _ {v : List ℕ} {x : Step} (ok : Followable v x) (second : Bool) (i : ℕ) (l : i < entries state_layout v) where
  pub end_in : end_at v second i < (state_of v).size
  end_in = rw (← (size_of v)) (ok.inside second i l)

  pub end_few : end_at v second i < object_part
  end_few = omega (arith, ok.inside second i l, ok.room)

-- The words of a step's ends: both are read as objects.

module _ {v : List ℕ} {x : Step} (ok : Followable v x) (second : Bool) (i : ℕ) (l : i < entries state_layout v) where
  pub object_end : object_in v (ends_from v second) i ≡ end_at v second i
  unfolding object_at left_at right_at
  object_end = pick second (end_few ok true i l)
    where
      pick : (second : Bool) → end_at v true i < object_part → object_in v (ends_from v second) i ≡ end_at v second i
      pick true few = mod-eq_of_lt few
      pick false few = refl

  pub object_inside : object_in v (ends_from v second) i < objects v
  object_inside = rw object_end (ok.inside second i l)

  pub ends_few : ends_from v second + i < 2 ^ 32
  unfolding state_layout
  ends_few = pick second
    where
      pick : (second : Bool) → ends_from v second + i < 2 ^ 32
      pick true = omega (arith, l, ok.few)
      pick false = omega (arith, l, ok.few)

-- The facts of a step stand from one place up to another, and its ends are read there.
pub record Facing (w : List ℕ) (from to : ℕ) (e : Ends) (x : Step) : Type 0 where
  pub ok : Followable w x
  pub first : KindParts w x.kind from from
  pub last : KindParts w (x.kind + 1) to to
  pub ends : e ≡ ends_of w x.backward

module _ {w : List ℕ} {from to : ℕ} {e : Ends} {x : Step} (f : Facing w from to e x) {i : ℕ} (l : i < to) where
  pub facing_within : i < entries state_layout w
  facing_within = omega (arith, l, f.last.within)

  pub facing_few : (e.origins + i < 2 ^ 32) × (e.targets + i < 2 ^ 32)
  facing_few =
      rw f.ends
      (ends_few f.ok x.backward i facing_within, ends_few f.ok (not x.backward) i facing_within)

  pub facing_inside : (object_in w e.targets i < objects w) × (object_in w e.origins i < objects w)
  facing_inside =
      rw f.ends
      (object_inside f.ok (not x.backward) i facing_within, object_inside f.ok x.backward i facing_within)

leads_kind : (w : List ℕ) (x : Step) (landings : List ℕ) (a : ℕ) (into : List ℕ) (o i : ℕ) → So (leads_into w x landings a into o i)
    → kind_at w i ≡ x.kind
leads_kind w x landings a into o i h = eqb-true (kind_at w i) x.kind (and_left _ _ (and_left _ _ (and_left _ _ h)))

module _ {w : List ℕ} {x : Step} {landings : List ℕ} {a : ℕ} {into : List ℕ} where
  pub origins_none : {from : ℕ} → KindParts w x.kind from from → Origins w x landings a into from (replicate set_words 0)
  origins_none p =
      record { size = refl; bits = λ o l. zero_bits set_words o ∙ sym (kind_before w (leads_into w x landings a into o) (leads_kind w x landings a into o) p) }

  -- the row's set and the other are asked for at once
  pub origins_more : {from to i : ℕ} {e : Ends} {row both ws vs : List ℕ} → Facing w from to e x → from ≤ i → i < to
      → Origins w x landings a into i ws
      → Row landings a row
      → SharedRow row into 0 both
      → Led w e both ws i vs
      → Origins w x landings a into (i + 1) vs
  origins_more {i = i} {row = row} {both = both} f j k z r s h =
      record {
        size = h.size ∙ z.size;
        bits = λ o l. h.bits o ∙ rw (f.ends, object_end f.ok (not x.backward) i m, object_end f.ok x.backward i m, z.bits o l, any_more (leads_into w x landings a into o) i, eq-eqb (kind_at w i) x.kind (kind_within _ f.first f.last _ j k), shares);
      }
    where
      m : i < entries state_layout w
      m = facing_within f k

      few : target_at w x i < object_part
      few = end_few f.ok (not x.backward) i m

      shares : bit_at both (target_at w x i) ≡ (row_bit landings a (target_at w x i) && bit_at into (target_at w x i))
      shares =
          s.bits _ few
          ∙ ap₂ (λ (b c : Bool). b && c) (row_zero row _ ∙ r.bits _ few) (row_zero into _)

  pub origins_all : {i to : ℕ} {vs : List ℕ} → Origins w x landings a into i vs → KindParts w (x.kind + 1) to to → to ≤ i → i ≤ entries state_layout w
      → Origins w x landings a into (entries state_layout w) vs
  origins_all {i} {to} z p l m =
      record {
        size = z.size;
        bits = λ o j. z.bits o j
            ∙ sym (kind_after w (leads_into w x landings a into o) (leads_kind w x landings a into o) p l m);
      }

-- A fact leads a step from one end of its pair to the other.

pub steps_of : (v : List ℕ) (back : Bool) (P i : ℕ) → i < entries state_layout v → kind_at v i ≡ attribute_kinds + P → So (steps_to (state_of v) (direction_of back) P (end_at v back i) (end_at v (not back) i))
unfolding state_of
steps_of v true P i l e = pair_of v (attribute_kinds + P) i l e
steps_of v false P i l e = pair_of v (attribute_kinds + P) i l e

pub steps_found : (v : List ℕ) (back : Bool) (P c t : ℕ) → So (steps_to (state_of v) (direction_of back) P c t) → (i : ℕ) × (i < entries state_layout v) × (kind_at v i ≡ attribute_kinds + P) × (end_at v back i ≡ c) × (end_at v (not back) i ≡ t)
unfolding state_of
steps_found v true P c t h = let (i, l, (a, b, c)) = (pair_iff v (attribute_kinds + P) t c).0 h in (i, l, a, c, b)
steps_found v false P c t h = let (i, l, (a, b, c)) = (pair_iff v (attribute_kinds + P) c t).0 h in (i, l, a, b, c)
