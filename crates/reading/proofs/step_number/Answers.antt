use Rattle.std.proofs.Common.{rules}
use Rattle.records.proofs.General.RangeLaws.{count_below}
use Rattle.reading.proofs.step_number.Goals as goal

pub returns : goal.returns
returns c = count_below c.filter.ensures.source c.filter.ensures.closure c.count.ensures.ran (λ x b q k. search rules)
