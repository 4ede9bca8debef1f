-- The objects passed have got their values.
use lib.ListN.{take}
use Rattle.forest.specs.Kept.{Grows}
use Rattle.forest.specs.Making.{made_all}
use Rattle.forest.proofs.make.make_all.Given as goal

abbrev pub invariant-loop-d : goal.invariant-loop-d
invariant-loop-d l =
    Grows l.g l.n l.size l.initial.objects l.objects (made_all l.schema l.edges l.initial.objects l.g l.n l.need (take l.d-index l.list))
