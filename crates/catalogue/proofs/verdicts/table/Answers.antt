-- Each row by itself.
use Rattle.std.proofs.Common.{rules}
use Prim.Native.Nat.{ℕ}
use mathlib.Core.Bool.{Bool}
use mathlib.Core.List.{List, []}
use Rattle.catalogue.specs.Order.{held_at}
use Rattle.catalogue.specs.Helpers.{in_row, Row}
use Rattle.catalogue.proofs.FromFnLaws.{entry_from_fn}
use Rattle.catalogue.proofs.verdicts.table.Goals as goal

pub returns : goal.returns
returns c =
    let verdict = held_at c.args.n (in_row c.args.rows.now) in
    let rows = entry_from_fn (λ (i : ℕ) (r : List Bool). Row (verdict i) r) (λ i r q k. search rules) c.from_fn.ensures.items [] in
    record { rows = c.from_fn.ensures.items.long; columns = λ i h. (rows i h).size; cells = λ i j h. (rows i h).cells j }
