-- The digits of the views that are together with view i, as a sum.
use Prim.Native.Nat.{◌^◌}
use mathlib.Core.Bool.{cond}
use Rattle.std.proofs.Common.{rules}
use Rattle.records.specs.Finite.{set_of}
use Rattle.records.proofs.General.RangeLaws.{sum_below, sum_fits}
use Rattle.catalogue.specs.Order.{together}
use Rattle.catalogue.specs.Helpers.{in_row}
use Rattle.catalogue.proofs.SetLaws.{set_word}
use Rattle.catalogue.proofs.arrange.group.Goals as goal

pub sum-requires-clause-fits : goal.sum-requires-clause-fits
unfolding set_of
sum-requires-clause-fits c =
    let test = together (in_row c.args.rows.now) c.args.i in
    sum_fits {h = λ j. cond (test j) (2 ^ j) 0} c.map.ensures.source c.map.ensures.closure (λ x r q k. search rules) (set_word test c.args.n c.requires.1)

pub returns : goal.returns
unfolding set_of
returns c =
    let test = together (in_row c.args.rows.now) c.args.i in
    sum_below {h = λ j. cond (test j) (2 ^ j) 0} c.map.ensures.source c.map.ensures.closure c.sum.ensures.ran (λ x r q k. search rules)
