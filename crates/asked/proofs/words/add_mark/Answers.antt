-- The right side is above all nodes, and so a mark.
use Prim.Native.Nat.{◌+◌}
use Rattle.chase.specs.Bounds.{max_nodes}
use Rattle.asked.proofs.GrownLaws.{side_mark, grown_side}
use Rattle.asked.proofs.words.add_mark.Goals as goal

pub returns : goal.returns
returns c = grown_side (max_nodes + c.args.mark) (side_mark _) c.add_side.ensures
