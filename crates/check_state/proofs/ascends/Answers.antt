-- The tests of the definition, on the words of two facts.
use Rattle.records.specs.StateRefusal.{ascends}
use native.Mathlib.Numerals.{add-one}
use Rattle.check_state.proofs.ascends.Goals as goal

pub returns : goal.returns
unfolding ascends
returns c = cc (add-one c.args.i)
