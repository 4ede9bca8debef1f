-- No object passed is the value made.
use Prim.Native.Nat.{◌≤◌}
use Rattle.forest.proofs.ReadLaws.{Below}
use Rattle.forest.proofs.objects.kid.Given as goal

abbrev pub invariant-loop-e : goal.invariant-loop-e
invariant-loop-e l = (l.g ≤ l.e) × Below l.g l.objects l.attribute l.d l.e l.n
