-- The first number that the closure passes.
use Rattle.std.proofs.Common.{rules}
use Rattle.records.proofs.General.RangeLaws.{find_below}
use Rattle.judge.proofs.counterexample.lowest.Goals as goal

pub returns : goal.returns
returns c = find_below _ c.find.ensures.ran (λ x b q k. search rules)
