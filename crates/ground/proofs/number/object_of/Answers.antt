-- The live nodes before the representative are counted.
use Rattle.std.proofs.Common.{rules}
use Rattle.chase.specs.Ground.{object_of}
use Rattle.chase.specs.Primary.{rep_of}
use Rattle.records.proofs.General.RangeLaws.{count_below}
use Rattle.ground.proofs.number.object_of.Goals as goal

pub returns : goal.returns
unfolding object_of rep_of
returns c = count_below c.filter.ensures.source c.filter.ensures.closure c.count.ensures.ran (λ x b q k. search rules)
