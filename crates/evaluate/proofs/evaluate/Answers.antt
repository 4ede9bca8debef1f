-- An accepted concept has no more tokens than the most (tokens_few).
use Rattle.records.proofs.AcceptedLaws.{tokens_few}
use Rattle.evaluate.proofs.evaluate.Goals as goal
use native.Mathlib.Omega.{arith}

pub with_tokens-requires-else-tokens-le-FEW_TOKENS-clause-landings :
    goal.with_tokens-requires-else-tokens-le-FEW_TOKENS-clause-landings
with_tokens-requires-else-tokens-le-FEW_TOKENS-clause-landings c =
    omega (arith, tokens_few c.args.concept.now c.requires.shape)
