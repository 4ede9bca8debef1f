-- The two tests of the definition.
use Prim.Native.Nat.{◌%◌}
use Rattle.records.proofs.General.BoolLaws.{or_false_right}
use borrow.Author.Tests.{eqb-true, not-false}
use lib.Dec.{ltb}
use mathlib.Core.Path.{◌≡◌}
use native.Mathlib.Omega.{arith}
use Rattle.check_concept.proofs.sorts.Sorts.reach.Goals as goal

pub returns-then-self : goal.returns-then-self
returns-then-self c = rw c.if-self.true

pub overflow_sub-result : goal.overflow_sub-result
overflow_sub-result c =
    let h : c.args.self.bits % 2 ≡ 1 = eqb-true _ 1 (not-false _ (or_false_right (ltb c.args.self.height 1) _ c.if-self.false)) in omega arith

pub returns : goal.returns
returns c = rw c.if-self.false
