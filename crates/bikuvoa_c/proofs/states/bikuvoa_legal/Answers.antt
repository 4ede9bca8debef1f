-- The place fits.
use mathlib.Core.Path.{sym, subst}
use Rattle.c_answers.specs.Given.{PlaceFits}
use Rattle.bikuvoa_c.proofs.FitLaws.{legal_fits}
use Rattle.bikuvoa_c.proofs.states.bikuvoa_legal.Goals as goal

pub give_place-requires : goal.give_place-requires
give_place-requires c = subst PlaceFits (sym c.legal.ensures) (legal_fits c.args.schema.now c.args.state.now)
