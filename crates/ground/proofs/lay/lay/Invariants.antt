-- The nodes passed are laid.
use Rattle.primary.specs.Formed.{prime}
use Rattle.ground.specs.Laying.{Grounds}
use Rattle.ground.proofs.lay.lay.Given as goal

abbrev pub invariant-loop-i : goal.invariant-loop-i
invariant-loop-i l = Grounds (prime l.reps l.sets) l.i l.count l.objects
