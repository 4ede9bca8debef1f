-- The counts are words, and few.
use mathlib.Core.Path.{◌∙◌}
use native.Mathlib.Omega.{arith}
use lib.ListN.{take, get_or}
use Rattle.std.proofs.Common.{rules}
use Rattle.records.proofs.General.RangeLaws.{sum_in, sum_in_fits}
use Rattle.records.proofs.General.SumLaws.{sum_small}
use Rattle.links.proofs.CountLaws.{sum_taken}
use Rattle.links.proofs.counts.total.Goals as goal

pub sum-requires-clause-fits : goal.sum-requires-clause-fits
sum-requires-clause-fits c =
    sum_in_fits (λ x. x) (take c.args.n c.args.counts.now) 0 (cc) c.map.ensures.closure (λ x r q k. search rules)
    (omega (
      arith,
      sum_taken c.args.counts.now c.args.n (omega (arith, c.requires, c.told-counts)),
      sum_small (λ e. get_or c.args.counts.now e 0) c.args.n c.fits-counts,
      c.requires,
    ))

pub returns : goal.returns
returns c =
    sum_in (λ x. x) (take c.args.n c.args.counts.now) 0 (cc) c.map.ensures.closure c.sum.ensures.ran (λ x r q k. search rules)
    ∙ sum_taken c.args.counts.now c.args.n (omega (arith, c.requires, c.told-counts))
