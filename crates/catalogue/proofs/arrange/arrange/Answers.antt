-- The groups before the k-th are found (Placed of ArrangeLaws).
use Prim.Native.Nat.{ℕ}
use mathlib.Core.Path.{sym, ◌∙◌}
use native.Mathlib.Nat.{le_antisymm}
use native.Mathlib.Omega.{arith}
use lib.ListN.{length-replicate, get_or-replicate}
use Rattle.records.specs.Layout.{max_views}
use Rattle.catalogue.proofs.ArrangeLaws.{placed_none, placed_ended, placed_found, placed_more, placed_all}
use Rattle.catalogue.proofs.arrange.arrange.Goals as goal

pub loop-k-init : goal.loop-k-init
loop-k-init c = (omega arith, placed_none _ _ _ (length-replicate {A = ℕ} max_views 0) (λ k h. get_or-replicate {A = ℕ} max_views k 0 0 h))

pub returns-in_default : goal.returns-in_default
returns-in_default c =
    let z = c.loop-k.invariant.1 in
    placed_all _ _ z c.loop-k.invariant.0 (λ _. placed_ended _ _ z (sym c.next.ensures ∙ c.in_default.is))

pub group-views-requires : goal.group-views-requires
group-views-requires c =
    let found = placed_found _ _ c.loop-k.invariant.1 (sym c.next.ensures ∙ c.in-Some.is) in
    (c.requires.0, c.requires.1, omega (arith, c.requires.1, found.1))

pub loop-k-preserved : goal.loop-k-preserved
loop-k-preserved c =
    let z = c.loop-k.invariant.1 in
    let found = placed_found _ _ z (sym c.next.ensures ∙ c.in-Some.is) in (
      omega arith,
      placed_more _ _ z (omega (arith, c.requires.1)) _ (λ q. omega (arith, found.0, found.1, q)) (rw found.0 at c.group-views.ensures),
    )

pub returns : goal.returns
returns c =
    let e = le_antisymm c.loop-k.invariant.0 c.loop-k-test.false in
    placed_all _ _ (rw e at c.loop-k.invariant.1) (omega arith) (λ l. absurd (omega arith))
