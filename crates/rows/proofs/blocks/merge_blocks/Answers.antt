-- The blocks passed are put in (Merging).
use Rattle.rows.proofs.BlockLaws.{row_end, merging_none, merging_more, merging_all}
use native.Mathlib.Omega.{arith}
use Rattle.rows.proofs.blocks.merge_blocks.Goals as goal

pub overflow_mul-to : goal.overflow_mul-to
overflow_mul-to c = omega (arith, row_end c.args.r c.args.blocks _ c.requires.block_words_in_bounds, c.requires.rows_len_bound)

pub overflow_mul-from : goal.overflow_mul-from
overflow_mul-from c = omega (arith, row_end c.args.s c.args.blocks _ c.requires.block_words_in_bounds_2, c.requires.rows_len_bound)

pub loop-c-init : goal.loop-c-init
loop-c-init c = (omega arith, merging_none)

pub overflow_add-to : goal.overflow_add-to
overflow_add-to c = omega (arith, c.loop-c-test.true, row_end c.args.r c.args.blocks _ c.requires.block_words_in_bounds, c.requires.rows_len_bound)

pub overflow_add-from : goal.overflow_add-from
overflow_add-from c = omega (arith, c.loop-c-test.true, row_end c.args.s c.args.blocks _ c.requires.block_words_in_bounds_2, c.requires.rows_len_bound)

pub merge_block-requires : goal.merge_block-requires
merge_block-requires c = record { block_words_in_bounds = omega (arith, c.loop-c-test.true, c.loop-c.invariant.1.size, row_end c.args.r c.args.blocks _ c.requires.block_words_in_bounds); block_words_in_bounds_2 = omega (arith, c.loop-c-test.true, c.loop-c.invariant.1.size, row_end c.args.s c.args.blocks _ c.requires.block_words_in_bounds_2) }

pub loop-c-preserved : goal.loop-c-preserved
loop-c-preserved c = (omega arith, merging_more c.loop-c.invariant.1 c.loop-c-test.true c.merge_block.ensures)

pub returns : goal.returns
returns c = merging_all c.loop-c.invariant.1 c.loop-c-test.false
