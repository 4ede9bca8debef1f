-- The constants passed are named.
use Prim.Native.Nat.{ℕ}
use native.Mathlib.Nat.{le_antisymm}
use native.Mathlib.Omega.{arith}
use mathlib.Core.List.{[], ◌∷◌}
use mathlib.Core.Path.{ap, ◌∙◌}
use Rattle.records.specs.Encoding.{name_fact}
use Rattle.candidate.proofs.WriteLaws.{room_as, wrote_as, turn_none, turn_room, turn_more, turn_all}
use Rattle.ground.proofs.NumberLaws.{object_part_lem}
use Rattle.candidate.proofs.names.name_facts.Goals as goal

pub loop-a-init : goal.loop-a-init
loop-a-init c = (omega arith, turn_none _ _ _)

pub fact-requires : goal.fact-requires
fact-requires c =
    let p = c.requires.inside in
    (omega (arith, p.3), omega (arith, object_part_lem _ _ _ (p.0, omega (arith, p.2)) p.1 c.object_of-d.ensures), omega arith)

pub put_if-at-requires : goal.put_if-at-requires
put_if-at-requires c =
    room_as _ _ _ _ (ap (λ (f : ℕ). f ∷ []) (c.fact.ensures ∙ ap (name_fact _) c.object_of-d.ensures))
    (turn_room _ _ _ _ _ _ _ c.loop-a-test.true c.requires.room c.loop-a.invariant.1)

pub loop-a-preserved : goal.loop-a-preserved
loop-a-preserved c = (
  omega arith,
  turn_more _ _ _ _ _ _ _ _ c.loop-a.invariant.1
      (wrote_as _ _ _ _ _ _ (ap (λ (f : ℕ). f ∷ []) (c.fact.ensures ∙ ap (name_fact _) c.object_of-d.ensures)) c.put_if-at.ensures),
)

pub returns : goal.returns
returns c = turn_all _ _ _ _ _ _ _ (le_antisymm c.loop-a.invariant.0 c.loop-a-test.false) c.loop-a.invariant.1
