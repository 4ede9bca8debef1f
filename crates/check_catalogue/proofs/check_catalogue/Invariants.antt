-- The views passed are accepted (CatalogueLaws).
use Prim.Native.Nat.{◌≤◌}
use Rattle.records.specs.CatalogueRefusal.{view_refusals}
use Rattle.records.proofs.OutcomeLaws.{Passed}
use Rattle.check_catalogue.proofs.check_catalogue.Given as goal

abbrev pub invariant-loop-i : goal.invariant-loop-i
invariant-loop-i l = (l.i ≤ l.n) × Passed (view_refusals l.s l.words l.i)
