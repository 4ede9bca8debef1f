-- The pair was settled, or more is known by what it is told (KnownLaws).
use mathlib.Core.Path.{sym, ◌∙◌}
use native.Mathlib.Omega.{arith}
use Rattle.records.proofs.General.BoolLaws.{or_left, not_of_false}
use Rattle.catalogue.proofs.KnownLaws.{few_views, grown_same, held_settled, grown_held, open_settled, grown_open}
use Rattle.catalogue.proofs.pairs.settle.Goals as goal

pub offset_bounds-rows-i : goal.offset_bounds-rows-i
offset_bounds-rows-i c = omega (arith, few_views _ _ c.requires.0.accepted, c.requires.1)

pub bounds-rows-i : goal.bounds-rows-i
bounds-rows-i c =
    omega (arith, few_views _ _ c.requires.0.accepted, c.requires.0.size, c.requires.1)

pub has-requires : goal.has-requires
has-requires c =
    omega (arith, few_views _ _ c.requires.0.accepted, c.requires.2)

pub returns-then-has : goal.returns-then-has
returns-then-has c = record { grown = grown_same _ _ _ _ c.requires.0; told = or_left _ _ (sym c.has.ensures ∙ c.if-has.true) }

pub add_held-requires : goal.add_held-requires
add_held-requires c =
    let few = few_views _ _ c.requires.0.accepted in
    (c.requires.0.size, omega (arith, few, c.views.ensures.value), omega (arith, few, c.requires.1), omega (arith, few, c.requires.2))

pub returns-then-ask : goal.returns-then-ask
returns-then-ask c = let z = rw c.views.ensures.value at c.add_held.ensures in
    let told = c.ask.ensures.is_held.0 c.if-ask.true in
    record { grown = grown_held _ _ _ _ c.requires.0 _ _ c.requires.1 c.requires.2 _ z told; told = held_settled _ _ _ _ c.requires.0 _ _ c.requires.1 c.requires.2 _ z }

pub offset_bounds-opens-i : goal.offset_bounds-opens-i
offset_bounds-opens-i c = omega (arith, few_views _ _ c.requires.0.accepted, c.requires.1)

pub bounds-opens-i : goal.bounds-opens-i
bounds-opens-i c =
    omega (arith, few_views _ _ c.requires.0.accepted, c.requires.0.opens_size, c.requires.1)

pub only_if-requires : goal.only_if-requires
only_if-requires c =
    omega (arith, few_views _ _ c.requires.0.accepted, c.requires.2)

pub bounds-opens-i-2 : goal.bounds-opens-i-2
bounds-opens-i-2 c =
    omega (arith, few_views _ _ c.requires.0.accepted, c.requires.0.opens_size, c.requires.1)

pub returns : goal.returns
returns c =
    let told = c.ask.ensures.is_open.0 (not_of_false _ c.if-ask.false) in
    rw c.only_if.ensures
    (record {
      grown = grown_open _ _ _ _ c.requires.0 _ _ c.requires.1 c.requires.2 told;
      told = open_settled _ _ _ _ c.requires.0 _ _ c.requires.1 c.requires.2;
    })
