-- The span of tokens falls: the measure is twice the place where an item ends. A token's own function stands between, and its
-- measure is one more than that of the operand that ends at its token. Each need cites what the token's operands may do, or
-- what they leave (WalkLaws).
use Prim.Native.Nat.{suc, ◌*◌}
use Rattle.forest.proofs.walk.+both_common_step_trek_walk.Given as goal

abbrev pub decreases-both : goal.decreases-both
decreases-both l = suc (2 * l.at)

abbrev pub decreases-common : goal.decreases-common
decreases-common l = suc (2 * l.at)

abbrev pub decreases-step : goal.decreases-step
decreases-step l = suc (2 * l.step.at)

abbrev pub decreases-trek : goal.decreases-trek
decreases-trek l = 2 * l.end

abbrev pub decreases-walk : goal.decreases-walk
decreases-walk l = 2 * l.end
