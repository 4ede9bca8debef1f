-- Below the limit the shifted 1 is the set of the number alone, and past it no number is.
use Prim.Native.Nat.{◌^◌}
use borrow.Author.Tests.{ne_eqb}
use lib.Dec.{eqb}
use lib.Pow.{shl_exact}
use mathlib.Core.Path.{refl, sym, ◌∙◌}
use native.Mathlib.Nat.{one-mul}
use native.Mathlib.Omega.{arith}
use Rattle.records.proofs.General.SetLaws.{set_none, set_one}
use Rattle.records.proofs.named.only.Goals as goal

pub returns-then-number-limit : goal.returns-then-number-limit
returns-then-number-limit c =
    let n = c.args.number in
    shl_exact 1 n 32 (omega arith) (omega arith) ∙ one-mul (2 ^ n)
    ∙ sym (set_one (λ k. eqb k n) c.args.limit n c.if-number-limit.true (λ k l. refl))

pub returns-else-number-limit : goal.returns-else-number-limit
returns-else-number-limit c =
    let n = c.args.number in
    sym (set_none (λ k. eqb k n) c.args.limit (λ k l. ne_eqb k n (λ e. omega (arith, c.if-number-limit.false))))
