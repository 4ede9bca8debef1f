-- Each word is the row's.
use Rattle.std.proofs.Common.{rules}
use Prim.Native.Nat.{◌+◌, ◌*◌}
use lib.ListN.{get_or}
use Rattle.rows.specs.Selection.{set_words}
use Rattle.rows.proofs.RowLaws.{made, row_of}
use Rattle.rows.proofs.sets.row.Goals as goal

pub returns : goal.returns
returns c =
    row_of c.from_fn.ensures.items.long
    (made (λ i. get_or c.args.ws.now (c.args.t * set_words + i) 0) _ (λ i x q k. search rules) c.from_fn.ensures.items)
