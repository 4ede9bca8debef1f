-- The bit of the definition; past the end there is none.
use Rattle.std.proofs.Common.{arith}
use Rattle.std.proofs.lemmas.Grind.{common_steps}
use Rattle.records.proofs.General.BitLaws.{word_zero}
use Rattle.index.specs.BitSet.{bit_at}
use Rattle.index.proofs.bits.has.Goals as goal

pub returns : goal.returns
unfolding bit_at
returns c = grind (arith, common_steps, word_zero)
