-- The table of the axioms passed grows by the next axiom's entry (Filled of DomainLaws).
use Rattle.std.proofs.Common.{refl, arith}
use Rattle.records.specs.Layout.{max_attributes}
use Rattle.classes.proofs.DomainLaws.{filled_none, filled_related, filled_other, filled_all, related_in_range}
use Rattle.classes.proofs.domains.domains.Goals as goal
use Rattle.classes.proofs.domains.domains.Goals.{in-Relates, in_default}

pub loop-i-init : goal.loop-i-init
loop-i-init c = filled_none _ max_attributes refl

pub place-requires : goal.place-requires
place-requires c = (related_in_range _ c.requires _ _ _ _ _ c.axiom_at.ensures c.in-Relates.is (omega arith)).1

pub offset_bounds-table-p : goal.offset_bounds-table-p
offset_bounds-table-p c =
    omega (arith, related_in_range _ c.requires _ _ _ _ _ c.axiom_at.ensures c.in-Relates.is (omega arith))

pub bounds-table-p : goal.bounds-table-p
bounds-table-p c = (related_in_range _ c.requires _ _ _ _ _ c.axiom_at.ensures c.in-Relates.is (omega arith)).0

pub bounds-table-p-in-Relates : goal.bounds-table-p-in-Relates
bounds-table-p-in-Relates c = (related_in_range _ c.requires _ _ _ _ _ c.axiom_at.ensures c.in-Relates.is (omega arith)).0

pub loop-i-preserved : goal.loop-i-preserved
loop-i-preserved c =
    elim c.match-axiom_at.branch [
      | in-Relates w ↦ rw w.table-is
          (filled_related _ _ _ _ c.axiom_at.ensures c.loop-i.invariant _ _ _ _ w.in-Relates.is
          (related_in_range _ c.requires _ _ _ _ _ c.axiom_at.ensures w.in-Relates.is (omega arith)).0 (rw w.place.ensures))
      | in_default w ↦ rw w.table-is (filled_other _ _ _ _ c.axiom_at.ensures c.loop-i.invariant w.in_default.not-Relates)
    ]

pub returns : goal.returns
returns c = filled_all _ _ _ c.loop-i.invariant (omega arith)
