-- The nodes passed represent themselves.
use Rattle.std.proofs.Common.{ap, ◌∙◌, arith}
use Rattle.records.proofs.General.Filling.{listed_all}
use Rattle.primary.proofs.BeginLaws.{listed_numbers}
use Rattle.chase.specs.Primary.{numbers_from}
use Rattle.primary.proofs.begin.number.Goals as goal

pub returns : goal.returns
returns c =
    listed_all (λ j. j) c.loop-i.reps c.loop-i.i (omega arith) c.loop-i.invariant ∙ listed_numbers c.loop-i.i ∙ ap (numbers_from 0) (omega arith)
