-- In each case the words have room for the record.
use native.Mathlib.Omega.{arith}
use lib.ListN.{length}
use Rattle.records.proofs.EncodingLaws.{state_words}
use Rattle.decide.proofs.start.inside.Goals as goal

pub inside_in-requires-clause-room : goal.inside_in-requires-clause-room
inside_in-requires-clause-room c = omega (arith, state_words (length c.args.facts.now), c.if-n-le-FEW.true)

pub inside_in-requires-then-n-le-SOME-clause-room : goal.inside_in-requires-then-n-le-SOME-clause-room
inside_in-requires-then-n-le-SOME-clause-room c = omega (arith, state_words (length c.args.facts.now), c.if-n-le-SOME.true)

pub inside_in-requires-else-n-le-SOME-clause-room : goal.inside_in-requires-else-n-le-SOME-clause-room
inside_in-requires-else-n-le-SOME-clause-room c = omega (arith, state_words (length c.args.facts.now), c.requires.few)
