-- The second size of the query is how many steps it has (NodeLaws).
use native.Mathlib.Omega.{arith}
use mathlib.Core.Path.{ap}
use Rattle.construct.proofs.NodeLaws.{constants_few, nodes_are}
use Rattle.construct.proofs.nodes.Goals as goal

pub overflow_add-result-2 : goal.overflow_add-result-2
overflow_add-result-2 c =
    let few = constants_few _ _ c.requires in
    record { fits = omega (arith, c.word.ensures.word, ap (λ s. s.constants) c.signature_of-s.ensures, few) }

pub returns : goal.returns
returns c = rw c.signature_of-s.ensures (nodes_are _ _ c.requires _ c.word.ensures.value)
