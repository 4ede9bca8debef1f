-- What the whole path leads to is what its beginning leads to in the set (Reaching); the beginning is a token shorter at least
-- at each turn, and in the end it is empty.
use Rattle.paths.proofs.ReachLaws.{Reaching}
use Rattle.paths.specs.Landings.{Walk}
use Rattle.records.specs.Helpers.Reading.{path_at}
use Rattle.records.specs.StateRecord.{state_of}
use Prim.Native.Nat.{suc}
use Rattle.paths.proofs.reaching.reaching.Given as goal

abbrev pub invariant-loop-step : goal.invariant-loop-step
invariant-loop-step l = Walk l.words l.state l.landings (suc l.at) × Reaching (state_of l.state) (path_at l.words l.end) (path_at l.words (suc l.at)) l.set

abbrev pub decreases-loop-step : goal.decreases-loop-step
decreases-loop-step l = l.at
