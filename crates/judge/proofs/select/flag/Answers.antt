-- What stands before the present place is flagged and counted.
use Rattle.judge.proofs.FlagLaws.{flags_more, flags_none}
use lib.ListN.{length-set}
use mathlib.Core.Path.{refl}
use native.Mathlib.Omega.{arith}
use Rattle.records.specs.Finite.{count}
use Rattle.records.proofs.General.FiniteLaws.{count_le, count_turn}
use Rattle.records.proofs.General.BoolLaws.{byte_small}
use Rattle.index.specs.BitSet.{bit_at}
use Rattle.judge.proofs.select.flag.Goals as goal

pub loop-i-init : goal.loop-i-init
unfolding count
loop-i-init c = (omega arith, refl, refl, flags_none _ _)

pub overflow_add-found : goal.overflow_add-found
overflow_add-found c =
    omega (arith, count_le (bit_at c.args.set.now) c.loop-i.i, c.loop-i.invariant.2, c.from-found.ensures, byte_small c.has-here.result)

pub loop-i-preserved : goal.loop-i-preserved
loop-i-preserved c =
    rw (c.from.ensures, c.from-found.ensures) (
      omega arith,
      simp length-set c.loop-i.invariant.1,
      count_turn (bit_at c.args.set.now) c.loop-i.i _ c.has-here.result c.loop-i.invariant.2 c.has-here.ensures,
      flags_more (bit_at c.args.set.now) _ _ c.loop-i.i c.loop-i.invariant.3 (omega (arith, c.requires)) c.has-here.result c.has-here.ensures,
    )
