-- The words of the facts passed stand at the start, by whichever function says what a call gives.
use native.Mathlib.Omega.{arith}
use mathlib.Core.Path.{refl}
use lib.ListN.{length-set}
use Rattle.encoding.proofs.WriteLaws.{puts_more, puts_all}
use Rattle.encoding.proofs.halves.put.Goals as goal

pub loop-i-init : goal.loop-i-init
loop-i-init g c = (refl, λ f told. refl)

pub loop-i-preserved : goal.loop-i-preserved
loop-i-preserved g c = (
  simp length-set c.loop-i.invariant.0,
  λ f told. rw (told _ _ c.word.ensures) (puts_more f _ _ _ _ c.loop-i-test.true (omega (arith, c.requires.room)) (c.loop-i.invariant.1 f told)),
)

pub returns : goal.returns
returns g c = λ f told. puts_all f c.args.facts.now _ _ c.loop-i.i (omega arith) (omega arith) (c.loop-i.invariant.1 f told)
