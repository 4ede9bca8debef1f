-- A token of sort 10 is its argument's mark, any other no mark (MarkLaws).
use mathlib.Core.Path.{sym}
use Rattle.records.specs.Layout.{max_marks}
use Rattle.records.specs.Marks.{has_mark}
use Rattle.records.proofs.General.SetLaws.{set_none}
use Rattle.records.proofs.MarkLaws.{no_mark}
use Rattle.reading.proofs.mark_of.Goals as goal

pub returns-in-Mark : goal.returns-in-Mark
returns-in-Mark c = rw c.in-Mark.is c.only.ensures

pub returns-in_default : goal.returns-in_default
returns-in_default c =
    let t = c.args.token in
    sym (set_none (λ k. has_mark k t) max_marks (λ k l. no_mark t c.in_default.not-Mark k))
