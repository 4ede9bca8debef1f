-- Some allowed mark has no fact or several.
use Rattle.std.proofs.Common.{rules}
use Rattle.records.proofs.General.RangeLaws.{any_below}
use Rattle.check_state.specs.Scan.{mismarked}
use Rattle.check_state.proofs.mismarked.Goals as goal

pub returns : goal.returns
unfolding mismarked
returns c = any_below c.any.ensures.ran (λ x b q k. search rules)
