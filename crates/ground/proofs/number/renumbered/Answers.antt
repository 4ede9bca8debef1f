-- The two ends are numbers of objects, which have room in a part.
use Rattle.std.proofs.Common.{arith}
use Rattle.ground.proofs.NumberLaws.{ends_part}
use Rattle.ground.proofs.number.renumbered.Goals as goal

pub overflow_add-result : goal.overflow_add-result
overflow_add-result c = omega (arith, ends_part _ c.requires.0 c.requires.1 c.from-edge.result (rw c.from-edge.ensures c.requires.2))

pub overflow_mul-result-2 : goal.overflow_mul-result-2
overflow_mul-result-2 c = omega (arith, ends_part _ c.requires.0 c.requires.1 c.from-edge.result (rw c.from-edge.ensures c.requires.2))

pub overflow_add-result-2 : goal.overflow_add-result-2
overflow_add-result-2 c = omega (arith, ends_part _ c.requires.0 c.requires.1 c.from-edge.result (rw c.from-edge.ensures c.requires.2))

pub overflow_cast-result : goal.overflow_cast-result
overflow_cast-result c = omega (arith, ends_part _ c.requires.0 c.requires.1 c.from-edge.result (rw c.from-edge.ensures c.requires.2))
