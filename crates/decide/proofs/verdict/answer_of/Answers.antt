-- A clash is held; otherwise the start of the candidate decides (VerdictLaws).
use Rattle.decide.proofs.VerdictLaws.{clash_is_held, told_held, verdict_held, listable, told_by, verdict_by}
use Rattle.decide.proofs.verdict.answer_of.Goals as goal

pub returns-in_err-made : goal.returns-in_err-made
returns-in_err-made c =
    let held = clash_is_held c.requires.0 c.in_err-made.ensures in
    rw c.from_residual.ensures (record { told = told_held _ _ _ held; verdict = λ room. verdict_held _ _ _ _ held })

pub answer_in-requires : goal.answer_in-requires
answer_in-requires c = rw c.as_slice.ensures (listable c.requires.0 c.in_ok-made.ensures)

pub returns : goal.returns
returns c =
    let ok = c.requires.0 in
    let made = c.in_ok-made.ensures in
    let answer = rw c.as_slice.ensures at c.answer_in.ensures in
    record { told = rw answer.answered (told_by ok made); verdict = λ room. rw (answer.answered, answer.words) (verdict_by ok made _ room) }
