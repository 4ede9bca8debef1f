-- The shifted 1 is the power of two of the shift, and the shift is the class.
use Rattle.chase.specs.ClassSet.{place}
use lib.Pow.{shl_exact}
use mathlib.Core.Path.{ap, ◌∙◌}
use native.Mathlib.Nat.{one-mul}
use native.Mathlib.Omega.{arith}
use Rattle.classes.proofs.sets.place.Goals as goal

pub returns : goal.returns
unfolding place
returns c = shl_exact 1 _ 32 (omega arith) (omega arith) ∙ one-mul _ ∙ ap place (omega arith)
