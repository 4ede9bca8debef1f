-- At first each view is known to hold itself, at the end all is known (KnownLaws, ComparedLaws).
use native.Mathlib.Omega.{arith}
use Rattle.catalogue.proofs.KnownLaws.{few_views, alone_known}
use Rattle.catalogue.proofs.pairs.rows.Goals as goal

pub begin-rows-requires : goal.begin-rows-requires
begin-rows-requires c = omega (arith, c.views.ensures.value, few_views _ _ c.requires)

pub settle_all-requires : goal.settle_all-requires
settle_all-requires c =
    alone_known _ _ c.requires _ (rw c.views.ensures.value at c.begin-rows.ensures)
