-- The list after the step, of the objects passed.
use Rattle.forest.specs.Places.{Follows}
use Rattle.forest.proofs.places.next.Given as goal

abbrev pub invariant-loop-d : goal.invariant-loop-d
invariant-loop-d l = Follows l.root l.objects l.step l.fn.here l.d-index l.after
