-- By what is known (KnownLaws), or by the decision.
use mathlib.Core.Path.{sym, ◌∙◌}
use native.Mathlib.Omega.{arith}
use Rattle.records.proofs.CatalogueLaws.{view_inside, accepted_layout}
use Rattle.catalogue.proofs.KnownLaws.{few_views, triple_of, tells_refuted}
use Rattle.catalogue.proofs.pairs.ask.Goals as goal

pub refuted-requires : goal.refuted-requires
refuted-requires c =
    let few = few_views _ _ c.requires.0.accepted in (
      c.requires.0.size,
      c.requires.0.opens_size,
      omega (arith, few, c.views.ensures.value),
      omega (arith, few, c.requires.1),
      omega (arith, few, c.requires.2),
    )

pub returns-then-refuted : goal.returns-then-refuted
returns-then-refuted c =
    tells_refuted _ _ _ _ c.requires.0 _ _ (rw c.views.ensures.value at (sym c.refuted.ensures ∙ c.if-refuted.true))

pub view_at-requires : goal.view_at-requires
view_at-requires c =
    view_inside _ (accepted_layout _ _ c.requires.0.accepted.catalogue_accepted) _ (omega (arith, c.requires.1, c.requires.2))

pub view_at-requires-2 : goal.view_at-requires-2
view_at-requires-2 c =
    view_inside _ (accepted_layout _ _ c.requires.0.accepted.catalogue_accepted) _ (omega (arith, c.requires.1, c.requires.2))

pub held-requires : goal.held-requires
held-requires c =
    rw (c.view_at.ensures, c.view_at-2.ensures) (triple_of _ _ c.requires.0.accepted _ _ (omega (arith, c.requires.1, c.requires.2)) (omega (arith, c.requires.1, c.requires.2)))

pub returns : goal.returns
returns c = rw (c.view_at.ensures, c.view_at-2.ensures) at c.held.ensures
