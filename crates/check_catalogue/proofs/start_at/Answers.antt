-- Seventeen words that are added up stay small.
use Prim.Native.Nat.{◌+◌}
use native.Mathlib.Omega.{arith}
use Rattle.std.proofs.Common.{rules}
use Rattle.records.specs.Layout.{size_at}
use Rattle.records.specs.CatalogueRecord.{length_at, start_at}
use Rattle.records.proofs.General.SumLaws.{sum_small}
use Rattle.records.proofs.General.RangeLaws.{sum_below, sum_fits}
use Rattle.check_catalogue.proofs.start_at.Goals as goal

pub sum-requires-clause-fits : goal.sum-requires-clause-fits
unfolding length_at size_at
sum-requires-clause-fits c =
    sum_fits {h = length_at c.args.words.now} c.map.ensures.source c.map.ensures.closure (λ x r q k. search rules)
    (omega (arith, sum_small (length_at c.args.words.now) c.args.i (λ k. omega (arith, c.type_inv.words (1 + k)))))

pub overflow_add-result-2 : goal.overflow_add-result-2
unfolding length_at size_at
overflow_add-result-2 c =
    omega (
      arith,
      c.views.ensures.word,
      sum_below {h = length_at c.args.words.now} c.map.ensures.source c.map.ensures.closure c.sum.ensures.ran (λ x r q k. search rules),
      sum_small (length_at c.args.words.now) c.args.i (λ k. omega (arith, c.type_inv.words (1 + k))),
    )

pub returns : goal.returns
unfolding start_at length_at size_at
returns c =
    omega (
      arith,
      c.views.ensures.value,
      sum_below {h = length_at c.args.words.now} c.map.ensures.source c.map.ensures.closure c.sum.ensures.ran (λ x r q k. search rules),
      sum_small (length_at c.args.words.now) c.args.i (λ k. omega (arith, c.type_inv.words (1 + k))),
    )
