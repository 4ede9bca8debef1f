-- The object fits.
use mathlib.Core.Path.{sym, subst}
use Rattle.c_answers.specs.Given.{PlaceFits}
use Rattle.bikuvoa_c.proofs.FitLaws.{counterexample_fits}
use Rattle.bikuvoa_c.proofs.states.bikuvoa_counterexample.Goals as goal

pub give_place-requires : goal.give_place-requires
give_place-requires c =
    subst PlaceFits (sym c.counterexample.ensures)
    (counterexample_fits c.args.schema.now c.args.query.now c.args.view.now c.args.state.now)
