-- The words passed have what the rows share (Gathering).
use Rattle.paths.proofs.RelationLaws.{gathering_none, gathering_more, gathered_of}
use Rattle.paths.proofs.meeting.gather.Goals as goal
use native.Mathlib.Omega.{arith}

pub loop-j-init : goal.loop-j-init
loop-j-init c = gathering_none

pub loop-j-preserved : goal.loop-j-preserved
loop-j-preserved c = gathering_more c.loop-j.invariant (omega (arith, c.loop-j.auto.word-items, c.loop-j-test.true))

pub returns : goal.returns
returns c = gathered_of {r = c.args.r} {s = c.args.s} (omega (arith, c.requires.block_words_bound, c.requires.out_len)) c.requires.block_words_in_bounds c.requires.block_words_in_bounds_2 c.loop-j.invariant c.loop-j.auto.word-items (omega (arith, c.loop-j.auto.word-items, c.loop-j-test.false))
