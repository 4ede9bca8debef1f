-- The two words are the block's (block_merged).
use Rattle.rows.proofs.BlockLaws.{block_merged}
use mathlib.Core.Path.{refl}
use lib.ListN.{length-set}
use native.Mathlib.Omega.{arith}
use Rattle.rows.proofs.blocks.merge_block.Goals as goal

pub bounds-rows-i-4 : goal.bounds-rows-i-4
bounds-rows-i-4 c = rw (length-set c.args.rows.now _ _) (omega (arith, c.requires.block_words_in_bounds))

pub returns : goal.returns
returns c = block_merged c.args.p c.args.q refl refl c.requires.block_words_in_bounds
