-- Places: what is known at one is known at the next, and the list still has room there.
use Prim.Native.Nat.{ℕ, ◌-◌, ◌^◌, ◌≤◌, ◌<◌}
use native.Mathlib.Omega.{arith}
use mathlib.Core.Bool.{Bool, true, false}
use mathlib.Core.List.{List}
use mathlib.Core.Path.{◌≡◌, refl}
use Rattle.records.specs.Layout.{concept_layout, entries, query_steps}
use Rattle.records.specs.ConceptRefusal.{step_at, steps}
use Rattle.records.proofs.General.FiniteLaws.{count_mono}
use Rattle.chase.specs.Facts.{Facts}
use Rattle.records.specs.Helpers.Reading.{HasPath, step_number}
use Rattle.chase.specs.QueryTokens.{end_at}
use Rattle.asked.proofs.EndLaws.{end_step, end_empty}
use Rattle.asked.specs.declared.words.Kind.{Kind}
use Rattle.asked.specs.declared.words.Words.{Words}
use Rattle.asked.specs.Listed.{Room, Grown}
use Rattle.asked.specs.Places.{Place}

module _ {w : List ℕ} {first e n : ℕ} {x : Words} (z : Place w first e n x) where
  pub place_earlier : {d : ℕ} → d ≤ e → Place w first d n x
  place_earlier h =
      record {
        limits = z.limits;
        within = omega (arith, z.within);
        node = z.node;
        constants = z.constants;
        room = omega (arith, z.room);
        size = z.size;
      }

  pub place_node : {m : ℕ} → m ≤ query_steps → Place w first e m x
  place_node h =
      record { limits = z.limits; within = z.within; node = h; constants = z.constants; room = z.room; size = z.size }

  -- after the facts of what ends here
  pub place_grown : {k : Kind} {F : Facts} {d : ℕ} {y : Words} → Grown k F d e x y → d ≤ e → Place w first d n y
  place_grown g h =
      record {
        limits = z.limits;
        within = omega (arith, z.within);
        node = z.node;
        constants = z.constants;
        room = omega (arith, z.room, g.fits);
        size = g.size;
      }

  pub place_room : 0 < e → Room x
  place_room h = record { count = omega (arith, z.room); size = z.size }

  pub place_small : e < 2 ^ 16
  place_small = omega (arith, z.within, z.limits.few)

  number_few : {i : ℕ} → i ≤ e → step_number w i ≤ query_steps
  unfolding steps
  number_few {i} h = omega (arith, count_mono (step_at w) i (entries concept_layout w) (omega (arith, z.within)), z.limits.steps)

  pub place_number : step_number w e ≤ query_steps
  place_number = number_few (omega arith)

  -- a path's end is a step's node, or where it starts
  pub place_end : {m : ℕ} → m ≤ e → HasPath w m → end_at w m n ≤ query_steps
  place_end {m} h p = go (step_at w (m - 1)) refl
    where
      go : (b : Bool) → step_at w (m - 1) ≡ b → end_at w m n ≤ query_steps
      go true q = omega (arith, end_step w m n p q, number_few {i = m - 1} (omega arith))
      go false q = omega (arith, end_empty w m n p q, z.node)
