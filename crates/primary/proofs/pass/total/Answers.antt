-- The chain gives the sum.
use Rattle.std.proofs.Common.{rules, arith}
use Rattle.primary.proofs.SumLaws.{sums}
use Rattle.primary.proofs.pass.total.Goals as goal

pub returns : goal.returns
returns c = sums _ _ (search rules) (λ i. omega (arith, c.type_inv.l i))
