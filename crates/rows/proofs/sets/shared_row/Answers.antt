-- Each word is what the rows share there.
use Rattle.std.proofs.Common.{rules}
use Rattle.rows.proofs.RowLaws.{made, shared_word, shared_row_of}
use Rattle.rows.proofs.sets.shared_row.Goals as goal

pub returns : goal.returns
returns c =
    shared_row_of c.from_fn.ensures.items.long
    (made (shared_word c.args.ps.now c.args.qs.now c.args.t) _ (λ i x q k. search rules) c.from_fn.ensures.items)
