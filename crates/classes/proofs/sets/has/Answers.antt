-- The class is in the set if its digit is 1 (has_bit): a shift brings the digit down, and no table is read.
use Rattle.chase.proofs.ClassSetLaws.{has_bit}
use Rattle.classes.proofs.sets.has.Goals as goal

pub returns : goal.returns
returns c = has_bit _ _
