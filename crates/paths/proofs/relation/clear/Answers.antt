-- The words of the part are written over with 0, and the others stay.
use native.Mathlib.Omega.{arith}
use Rattle.std.proofs.Common.{rules}
use Rattle.paths.proofs.relation.clear.Goals as goal
use Rattle.paths.proofs.RelationLaws.{cleared_of}

pub returns : goal.returns
returns c = cleared_of c.args.bases c.requires (omega arith) (search rules)
