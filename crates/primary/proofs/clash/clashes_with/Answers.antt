-- A search over the constants before this.
use Rattle.std.proofs.Common.{rules}
use Rattle.records.specs.State.{repeats}
use Rattle.records.proofs.General.RangeLaws.{any_below}
use Rattle.primary.proofs.clash.clashes_with.Goals as goal

pub returns : goal.returns
unfolding repeats
returns c = any_below c.any.ensures.ran (λ x b q k. search rules)
