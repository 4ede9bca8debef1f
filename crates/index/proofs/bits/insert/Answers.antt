-- A union with the word of the one number.
use Rattle.index.proofs.BitSetLaws.{insert_is}
use Rattle.index.proofs.bits.insert.Goals as goal

pub returns : goal.returns
returns c = insert_is _ _ c.requires
