-- Each verdict by itself.
use Rattle.std.proofs.Common.{rules}
use mathlib.Core.Bool.{Bool, false}
use mathlib.Core.Path.{◌≡◌}
use Prim.Native.Nat.{ℕ}
use Rattle.catalogue.specs.Order.{held_at}
use Rattle.catalogue.specs.Helpers.{in_row}
use Rattle.catalogue.proofs.FromFnLaws.{entry_from_fn}
use Rattle.catalogue.proofs.verdicts.row.Goals as goal

pub returns : goal.returns
returns c =
    let verdict = held_at c.args.n (in_row c.args.rows.now) c.args.i in
    record { size = c.from_fn.ensures.items.long; cells = entry_from_fn (λ (j : ℕ) (v : Bool). v ≡ verdict j) (λ j v q k. search rules) c.from_fn.ensures.items false }
