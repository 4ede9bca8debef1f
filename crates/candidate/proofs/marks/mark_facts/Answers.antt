-- The marks passed have their objects.
use Prim.Native.Nat.{ℕ}
use native.Mathlib.Nat.{le_antisymm}
use native.Mathlib.Omega.{arith}
use mathlib.Core.Bool.{Bool}
use mathlib.Core.Path.{ap, ap₂, ◌∙◌}
use Rattle.records.specs.Encoding.{mark_fact}
use Rattle.candidate.proofs.WriteLaws.{room_as, wrote_as, turn_none, turn_room, turn_more, turn_all}
use Rattle.candidate.specs.Writing.{fact_if}
use Rattle.ground.specs.Numbers.{object_in}
use Rattle.ground.proofs.NumberLaws.{object_part_lem}
use Rattle.candidate.proofs.marks.mark_facts.Goals as goal

pub loop-k-init : goal.loop-k-init
loop-k-init c = (omega arith, turn_none _ _ _)

pub fact-requires : goal.fact-requires
fact-requires c =
    let p = c.requires.inside in
    (omega arith, omega (arith, object_part_lem _ _ _ (p.0, rw c.from.ensures (p.2.inside _ c.loop-k-test.true)) p.1 c.object_of-d.ensures), omega arith)

pub put_if-at-requires : goal.put_if-at-requires
put_if-at-requires c =
    room_as _ _ _ _
    (ap₂ (λ (b : Bool) (f : ℕ). fact_if b f) c.allows.ensures
    (c.fact.ensures ∙ ap (mark_fact _) (c.object_of-d.ensures ∙ ap (object_in _) c.from.ensures)))
    (turn_room _ _ _ _ _ _ _ c.loop-k-test.true c.requires.room c.loop-k.invariant.1)

pub loop-k-preserved : goal.loop-k-preserved
loop-k-preserved c = (
  omega arith,
  turn_more _ _ _ _ _ _ _ _ c.loop-k.invariant.1
      (wrote_as _ _ _ _ _ _
      (ap₂ (λ (b : Bool) (f : ℕ). fact_if b f) c.allows.ensures
      (c.fact.ensures ∙ ap (mark_fact _) (c.object_of-d.ensures ∙ ap (object_in _) c.from.ensures)))
      c.put_if-at.ensures),
)

pub returns : goal.returns
returns c = turn_all _ _ _ _ _ _ _ (le_antisymm c.loop-k.invariant.0 c.loop-k-test.false) c.loop-k.invariant.1
