-- The two ways, by the number of blocks.
use Rattle.rows.proofs.BlockLaws.{whole_end}
use Rattle.rows.proofs.blocks.merge.Goals as goal

pub merge_whole-requires : goal.merge_whole-requires
merge_whole-requires c =
    record {
      set_words_in_bounds = whole_end c.args.r _ _ c.if-blocks-eq-SET_BLOCKS.true c.requires.block_words_in_bounds;
      set_words_in_bounds_2 = whole_end c.args.s _ _ c.if-blocks-eq-SET_BLOCKS.true c.requires.block_words_in_bounds_2;
    }

pub returns-then-blocks-eq-SET_BLOCKS : goal.returns-then-blocks-eq-SET_BLOCKS
returns-then-blocks-eq-SET_BLOCKS c = rw c.if-blocks-eq-SET_BLOCKS.true c.merge_whole.ensures
