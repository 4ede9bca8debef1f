-- A search over the constants.
use Rattle.std.proofs.Common.{rules}
use Rattle.records.proofs.General.RangeLaws.{any_below}
use Rattle.primary.proofs.clash.clashes.Goals as goal

pub returns : goal.returns
returns c = any_below c.any.ensures.ran (λ x b q k. search rules)
