-- An accepted state has no more objects than the most (objects_room).
use Rattle.paths.proofs.FactLaws.{objects_room}
use Rattle.paths.proofs.RoomLaws.{relation_most}
use Rattle.evaluate.proofs.with_landings.Goals as goal
use native.Mathlib.Omega.{arith}

pub with_rows-requires-else-n-le-SOME_OBJECTS-clause-relations :
    goal.with_rows-requires-else-n-le-SOME_OBJECTS-clause-relations
with_rows-requires-else-n-le-SOME_OBJECTS-clause-relations c =
    record { room = λ t. omega (arith, relation_most (objects_room c.requires.evaluable)); few = omega arith }
