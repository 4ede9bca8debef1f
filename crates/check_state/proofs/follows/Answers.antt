-- The first fact, or a comparison with the one before.
use Rattle.check_state.proofs.StateScanLaws.{last_later}
use Rattle.check_state.specs.Scan.{last_passes}
use mathlib.Core.Path.{◌∙◌, sym}
use Rattle.check_state.proofs.follows.Goals as goal

pub returns-then-i-eq0 : goal.returns-then-i-eq0
unfolding last_passes
returns-then-i-eq0 c = rw c.if-i-eq0.true

pub returns-else-i-eq0 : goal.returns-else-i-eq0
returns-else-i-eq0 c = c.ascends.ensures ∙ sym (last_later _ _ c.if-i-eq0.false)
