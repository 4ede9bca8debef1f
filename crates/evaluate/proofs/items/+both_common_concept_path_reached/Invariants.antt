-- The span of tokens falls: an operand ends before its item does, and the measure is twice the place where the item ends.
-- A token's own function stands between: its measure is one more than that of the operands that end at its place. Each answer
-- cites what the token makes of its operands (PlaceLaws).
use Prim.Native.Nat.{suc, ◌*◌}
use Rattle.evaluate.proofs.items.+both_common_concept_path_reached.Given as goal

abbrev pub decreases-both : goal.decreases-both
decreases-both l = suc (2 * l.at)

abbrev pub decreases-common : goal.decreases-common
decreases-common l = suc (2 * l.at)

abbrev pub decreases-concept : goal.decreases-concept
decreases-concept l = 2 * l.end

abbrev pub decreases-path : goal.decreases-path
decreases-path l = 2 * l.end

abbrev pub decreases-reached : goal.decreases-reached
decreases-reached l = suc (2 * l.at)
