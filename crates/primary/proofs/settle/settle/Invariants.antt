-- Each turn is a round (Round of SettleLaws).
use Prim.Native.Nat.{◌-◌}
use Rattle.chase.specs.Primary.{bound}
use Rattle.primary.specs.Formed.{prime}
use Rattle.primary.specs.Asked.{query_task}
use Rattle.primary.proofs.SettleLaws.{Round}
use Rattle.primary.proofs.settle.settle.Given as goal

abbrev pub invariant-loop-next : goal.invariant-loop-next
invariant-loop-next l =
    Round (query_task l.schema l.query) (prime l.reps l.sets) l.last l.next

abbrev pub decreases-loop-next : goal.decreases-loop-next
decreases-loop-next l = bound (query_task l.schema l.query) - l.last
