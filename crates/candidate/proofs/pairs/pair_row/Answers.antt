-- The objects passed are written.
use native.Mathlib.Nat.{le_antisymm}
use native.Mathlib.Omega.{arith}
use mathlib.Core.List.{[]}
use mathlib.Core.Path.{◌∙◌}
use Rattle.records.specs.SchemaRecord.{schema_of}
use Rattle.candidate.proofs.PairLaws.{link_any, pair_room, pair_next, pair_both, value_small}
use Rattle.candidate.proofs.TableLaws.{looked_up, origin_is}
use Rattle.candidate.proofs.WriteLaws.{room_as, wrote_as, turn_none, turn_room, turn_more, turn_all}
use Rattle.forest.proofs.ObjectLaws.{size_laid}
use Rattle.candidate.proofs.pairs.pair_row.Goals as goal

pub loop-d-init : goal.loop-d-init
loop-d-init c = (omega arith, turn_none _ _ _)

pub asked_facts-linked-requires : goal.asked_facts-linked-requires
asked_facts-linked-requires c = let p = c.requires.sized in record {
  g_le_max_objects = (
    omega (arith, p.0.kept.laid.ground, p.0.kept.laid.fits),
    p.1,
    omega (arith, p.0.small),
    c.is_origin-asked.ensures ∙ origin_is c.origins-from.ensures _ [] _,
  );
  room = room_as _ _ _ _ (link_any _ c.args.objects.now c.args.edges.now _ _)
      (pair_room _ _ _ _ _ _ _ (turn_room _ _ _ _ _ _ _ c.loop-d-test.true c.requires.room c.loop-d.invariant.1));
}

pub value_facts-at-requires : goal.value_facts-at-requires
value_facts-at-requires c =
    let p = c.requires.sized in
    let value = c.value_of-value.ensures c.args.edges.now c.args.attribute
    (rw c.is_origin-asked.ensures
    (looked_up (schema_of c.args.schema.now) _ c.needs_mask-mask.ensures c.origins-from.ensures c.kids-made.ensures
    (omega (arith, c.requires.sized.0.small)))) in
    record {
      value_le_object_part = (
        omega (arith, value_small _ _ _ _ _ value (size_laid _ _ _ p.0.kept.laid c.args.objects.now c.args.edges.now), p.0.kept.laid.fits),
        p.1,
        omega (arith, p.0.small),
      );
      room = pair_next _ _ _ _ _ _ _ _ _ _
          (wrote_as _ _ _ _ _ _ (link_any _ c.args.objects.now c.args.edges.now _ _) c.asked_facts-linked.ensures) value
          (turn_room _ _ _ _ _ _ _ c.loop-d-test.true c.requires.room c.loop-d.invariant.1);
    }

pub loop-d-preserved : goal.loop-d-preserved
loop-d-preserved c =
    let value = c.value_of-value.ensures c.args.edges.now c.args.attribute
    (rw c.is_origin-asked.ensures
    (looked_up (schema_of c.args.schema.now) _ c.needs_mask-mask.ensures c.origins-from.ensures c.kids-made.ensures
    (omega (arith, c.requires.sized.0.small)))) in (
      omega arith,
      turn_more _ _ _ _ _ _ _ _ c.loop-d.invariant.1
          (pair_both _ _ _ _ _ _ _ _ _ _
          (wrote_as _ _ _ _ _ _ (link_any _ c.args.objects.now c.args.edges.now _ _) c.asked_facts-linked.ensures) value _ _
          c.value_facts-at.ensures),
    )

pub returns : goal.returns
returns c = turn_all _ _ _ _ _ _ _ (le_antisymm c.loop-d.invariant.0 c.loop-d-test.false) c.loop-d.invariant.1
