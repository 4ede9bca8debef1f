-- The first relation, the second beside it, and what they share.
use Rattle.paths.proofs.WalkLaws.{walk_room}
use Rattle.paths.proofs.MeetLaws.{common_selection}
use Rattle.paths.proofs.StepLaws.{size_of}
use mathlib.Core.Path.{◌∙◌}
use native.Mathlib.Omega.{arith}
use Rattle.paths.proofs.meeting.meeting.Goals as goal

pub blocks_for-blocks-requires : goal.blocks_for-blocks-requires
blocks_for-blocks-requires c = omega (arith, c.objects-n.ensures.value, walk_room c.requires.walk)

pub shared-requires-clause-block_words_bound : goal.shared-requires-clause-block_words_bound
shared-requires-clause-block_words_bound c =
    omega (arith, c.blocks_for-blocks.ensures, c.objects-n.ensures.value, walk_room c.requires.walk)

pub returns : goal.returns
returns c =
    record {
      size = c.relate-2.ensures.size ∙ c.relate.ensures.size;
      selection = common_selection (c.objects-n.ensures.value ∙ size_of _) c.blocks_for-blocks.ensures c.relate.ensures c.relate-2.ensures c.shared.ensures;
    }
