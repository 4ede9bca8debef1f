-- Each row by itself: its own view, or nothing past the last.
use Prim.Native.Nat.{ℕ, ◌^◌, ◌<◌}
use native.Mathlib.Omega.{arith}
use Rattle.records.specs.Layout.{max_views}
use mathlib.Core.Bool.{cond}
use mathlib.Core.Path.{◌≡◌}
use borrow.Author.Tests.{lt-ltb, le-ltb}
use lib.Dec.{ltb}
use Rattle.std.proofs.Common.{rules}
use Rattle.catalogue.proofs.FromFnLaws.{entry_from_fn}
use Rattle.catalogue.proofs.pairs.begin.Goals as goal

pub returns : goal.returns
returns c =
    let rows = entry_from_fn (λ (k x : ℕ). x ≡ cond (ltb k c.args.n) (2 ^ k) 0) (λ i y q k. search rules) c.from_fn.ensures.items in
    record {
      size = c.from_fn.ensures.items.long;
      first = λ i h. let b : i < max_views = omega (arith, c.requires) in rw (lt-ltb i c.args.n h) at (rows 0 i b);
      rest = λ i h b. rw (le-ltb i c.args.n h) at (rows 0 i b);
    }
