-- The row as a set, joined to the other row.
use Rattle.rows.proofs.BlockLaws.{merged_by}
use Rattle.rows.proofs.blocks.merge_whole.Goals as goal

pub returns : goal.returns
returns c = merged_by c.row-set.ensures c.join.ensures
