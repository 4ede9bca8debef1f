-- The passes start at the model's start.
use native.Mathlib.Omega.{arith}
use Prim.Native.Nat.{ℕ}
use lib.ListN.{replicate}
use mathlib.Core.Path.{ap, sym, ◌∙◌}
use Rattle.primary.proofs.BeginLaws.{begin_is}
use Rattle.primary.proofs.SettleLaws.{nodes_few}
use Rattle.primary.proofs.settle.close.Goals as goal

pub begin-requires : goal.begin-requires
begin-requires c = omega (arith, nodes_few _ _ c.requires.0.legal c.requires.0.sound, c.requires.1)

pub settle-requires : goal.settle-requires
settle-requires c = (
  c.requires.0,
  begin_is _ _ _ _ c.requires.1 c.begin.ensures.reps_after
      (c.begin.ensures.sets_after ∙ ap (λ (k : ℕ). replicate k 0) (c.requires.2 ∙ sym c.requires.1)),
)
