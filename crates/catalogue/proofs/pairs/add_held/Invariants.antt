-- The rows are changed one after the other (FilledLaws).
use mathlib.Core.Path.{◌≡◌}
use lib.ListN.{get_or}
use Rattle.catalogue.specs.Helpers.{joined}
use Rattle.catalogue.proofs.FilledLaws.{Filled}
use Rattle.catalogue.proofs.pairs.add_held.Given as goal

abbrev pub invariant-loop-row : goal.invariant-loop-row
invariant-loop-row l =
    Filled 0 l.n (λ k x. x ≡ joined l.i l.above (get_or l.initial.row-items k 0)) (λ k x. x ≡ get_or l.initial.row-items k 0) l.row-index l.row-items
