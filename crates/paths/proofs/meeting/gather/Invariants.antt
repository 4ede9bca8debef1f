-- The words passed have what the rows share (Gathering).
use Rattle.paths.proofs.RelationLaws.{Gathering}
use Rattle.paths.proofs.meeting.gather.Given as goal

abbrev pub invariant-loop-j : goal.invariant-loop-j
invariant-loop-j l = Gathering l.initial.word-items l.first l.second l.j l.word-items
