-- What accepted records are told (HoldingLaws).
use Rattle.decide.proofs.HoldingLaws.{told_tells}
use Rattle.decide.proofs.held.held.Goals as goal

pub returns : goal.returns
returns c = told_tells _ _ _ _ _ c.is_none.ensures c.answer-told.ensures.told
