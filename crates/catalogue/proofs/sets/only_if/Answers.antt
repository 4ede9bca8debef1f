-- The shifted 1, or nothing.
use Prim.Native.Nat.{◌^◌}
use lib.Pow.{shl_exact}
use mathlib.Core.Path.{refl, ◌∙◌}
use native.Mathlib.Nat.{one-mul}
use native.Mathlib.Omega.{arith}
use Rattle.catalogue.proofs.sets.only_if.Goals as goal

pub returns-then-test : goal.returns-then-test
returns-then-test c =
    let view = c.args.view in
    rw c.if-test.true (shl_exact 1 view 16 (omega arith) (omega (arith, c.requires)) ∙ one-mul (2 ^ view))

pub returns-else-test : goal.returns-else-test
returns-else-test c = rw c.if-test.false refl
