-- The right side is a node.
use Rattle.asked.proofs.GrownLaws.{side_node_lem, grown_side}
use Rattle.asked.proofs.words.add_equation.Goals as goal

pub returns : goal.returns
returns c = grown_side c.args.right (side_node_lem _ c.requires.left_lt_part.1) c.add_side.ensures
