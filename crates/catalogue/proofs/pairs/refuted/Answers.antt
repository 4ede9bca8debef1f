-- Some view that i holds is open to one that holds j.
use Rattle.std.proofs.Common.{rules}
use Rattle.records.proofs.General.RangeLaws.{any_below}
use Rattle.catalogue.specs.Helpers.{refutes}
use Rattle.catalogue.proofs.pairs.refuted.Goals as goal

pub returns : goal.returns
unfolding refutes
returns c = any_below c.any.ensures.ran (λ x b q k. search rules)
