-- The rows are changed one after the other (FilledLaws), and those behind the first n stay.
use Prim.Native.Nat.{ℕ, ◌+◌, ◌-◌, ◌≤◌, ◌<◌}
use mathlib.Core.List.{List, ◌++◌}
use mathlib.Core.Path.{◌≡◌, ap, ◌∙◌}
use native.Mathlib.Omega.{arith}
use lib.ListN.{get_or, take, drop}
use Rattle.std.proofs.lemmas.List.{length-append, length-drop, length-take-le, get_or_append_left, get_or-append_right, get_or-take, get_or-drop}
use Rattle.records.specs.Layout.{max_views}
use Rattle.catalogue.specs.Helpers.{Rows, joined, Joined}
use Rattle.catalogue.proofs.FilledLaws.{Filled, filled_more}
use Rattle.catalogue.proofs.pairs.add_held.Goals as goal

all_joined : (n i j : ℕ) (rows part : List ℕ) {k : ℕ} → Rows rows → n ≤ max_views → n ≤ k
    → Filled 0 n (λ a x. x ≡ joined i (get_or rows j 0) (get_or (take n rows) a 0)) (λ a x. x ≡ get_or (take n rows) a 0) k part
    → Joined n i j rows (part ++ drop n rows)
all_joined n i j rows part s h l z =
    record {
      size = omega (arith, s, h, z.size, length-append part (drop n rows), length-drop n rows);
      first = λ a b. get_or_append_left part (drop n rows) 0 a (omega (arith, z.size)) ∙ z.first a (omega arith) ∙ ap (joined i (get_or rows j 0)) (get_or-take n rows a 0 b);
      rest = λ a b c.
          let e : n + (a - n) ≡ a = omega arith in
          get_or-append_right part (drop n rows) n a 0 z.size b ∙ get_or-drop n rows (a - n) 0 ∙ ap (λ (m : ℕ). get_or rows m 0) e;
    }

pub loop-row-preserved : goal.loop-row-preserved
loop-row-preserved c =
    let taken = length-take-le c.args.n c.args.rows.now (omega (arith, c.requires.0, c.requires.1)) in
    let inside : c.loop-row.row-index < c.args.n = omega (arith, c.loop-row-test.true, taken) in
    let z = c.loop-row.invariant in
    filled_more _ _ _ _ _ _ _ z inside (c.joined.ensures ∙ ap (joined _ _) (z.rest _ (omega arith) inside))

pub returns : goal.returns
returns c =
    let taken = length-take-le c.args.n c.args.rows.now (omega (arith, c.requires.0, c.requires.1)) in
    all_joined c.args.n c.args.i c.args.j c.args.rows.now _ c.requires.0 c.requires.1 (omega (arith, c.loop-row-test.false, taken)) c.loop-row.invariant
