-- Some token is that of a common object.
use Rattle.std.proofs.Common.{rules}
use Rattle.records.proofs.General.RangeLaws.{any_below}
use Rattle.evaluate.proofs.has_common.Goals as goal

pub returns : goal.returns
returns c = rw (← c.tokens.ensures.value) (any_below c.any.ensures.ran (λ x b q k. search rules))
