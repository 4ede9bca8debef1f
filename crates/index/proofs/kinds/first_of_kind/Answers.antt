-- What lies before low is of a lower kind, and what lies from high on is not; the kinds rise, so one look at the middle
-- settles the half before it or the half from it on.
use native.Mathlib.Omega.{arith}
use Rattle.index.proofs.KindLaws.{parts_none, parts_low, parts_high, parts_met}
use Rattle.index.proofs.kinds.first_of_kind.Goals as goal

pub loop-low-init : goal.loop-low-init
loop-low-init c = parts_none _ _ c.facts-high.ensures.value

pub overflow_add-middle : goal.overflow_add-middle
overflow_add-middle c =
    omega (arith, c.loop-low-test.true, c.loop-low.invariant.within, c.facts-high.ensures.value, c.facts-high.ensures.word)

pub kind_at-requires : goal.kind_at-requires
kind_at-requires c =
    omega (arith, c.loop-low-test.true, c.loop-low.invariant.within, c.facts-high.ensures.value, c.facts-high.ensures.word)

pub overflow_add-low : goal.overflow_add-low
overflow_add-low c =
    omega (arith, c.loop-low-test.true, c.loop-low.invariant.within, c.facts-high.ensures.value, c.facts-high.ensures.word)

pub loop-low-smaller-then-kind_at-kind : goal.loop-low-smaller-then-kind_at-kind
loop-low-smaller-then-kind_at-kind c = omega (arith, c.loop-low-test.true)

pub loop-low-preserved-then-kind_at-kind : goal.loop-low-preserved-then-kind_at-kind
loop-low-preserved-then-kind_at-kind c =
    parts_low _ _ _ _ _ c.requires c.loop-low.invariant
    (omega (arith, c.loop-low-test.true)) (omega (arith, c.loop-low-test.true))
    (rw (← c.kind_at.ensures) c.if-kind_at-kind.true)

pub loop-low-smaller : goal.loop-low-smaller
loop-low-smaller c = omega (arith, c.loop-low-test.true)

pub loop-low-preserved : goal.loop-low-preserved
loop-low-preserved c =
    parts_high _ _ _ _ _ c.requires c.loop-low.invariant
    (omega (arith, c.loop-low-test.true)) (omega (arith, c.loop-low-test.true))
    (rw (← c.kind_at.ensures) c.if-kind_at-kind.false)

pub returns : goal.returns
returns c = parts_met _ _ c.loop-low.invariant c.loop-low-test.false
