-- An object's number is below the part of a left word that it has.
use Rattle.records.specs.StateRecord.{object_at}
use Rattle.legality.proofs.breaks.first_in.Goals as goal
use native.Mathlib.Omega.{arith}

pub member-requires : goal.member-requires
unfolding object_at
member-requires c = omega arith
