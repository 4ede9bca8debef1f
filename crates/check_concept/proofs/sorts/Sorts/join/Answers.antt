-- The two tests of the definition.
use Prim.Native.Nat.{◌≤◌}
use Rattle.records.proofs.General.BoolLaws.{or_false_left}
use borrow.Author.Tests.{ltb-false}
use lib.Dec.{ltb}
use native.Mathlib.Omega.{arith}
use Rattle.check_concept.proofs.sorts.Sorts.join.Goals as goal

pub returns-then-self-want : goal.returns-then-self-want
returns-then-self-want c = rw c.if-self-want.true

pub overflow_sub-result : goal.overflow_sub-result
overflow_sub-result c =
    let h : 2 ≤ c.args.self.height = ltb-false _ 2 (or_false_left (ltb c.args.self.height 2) _ c.if-self-want.false) in omega arith

pub returns : goal.returns
returns c = rw c.if-self-want.false
