-- Orders that are worked out by hand, proved by computing the definitions of Order.
use Prim.Native.Nat.{ℕ}
use mathlib.Core.Bool.{Bool, So, ◌&&◌}
use mathlib.Core.List.{List, [], ◌∷◌}
use mathlib.Core.Path.{refl}
use lib.Dec.{eqb}
use lib.ListN.{length, get_or}
use Rattle.records.specs.Finite.{all, any, least, sum, set_of}
use Rattle.catalogue.specs.Order.{ready, next, to_come, groups, in_group}
use Rattle.catalogue.specs.Helpers.{in_row}

-- the views with these rows are in these groups, in this order
abbrev ordered : List ℕ → List ℕ → Bool
ordered rows order =
    eqb (groups (length rows) (in_row rows)) (length order)
    && all (length rows) λ k. eqb (set_of (length rows) (in_group (length rows) (in_row rows) k)) (get_or order k 0)

-- The four views of the club (docs/RECORDS.md): views 1 and 3 hold each other, view 2 is narrower, and view 0 is wider than both.
-- View 0 holds view 2, and view 1 neither: view 1 comes first, and view 0 waits for view 2.
-- Views 0 and 2 hold each other, and so do views 1 and 3: of two groups of two, the one with view 0 comes first.
pub ordered_by_hand : So (ordered (1 ∷ 11 ∷ 15 ∷ 11 ∷ []) (4 ∷ 10 ∷ 1 ∷ []))
    × So (ordered (1 ∷ 2 ∷ 5 ∷ []) (2 ∷ 4 ∷ 1 ∷ []))
    × So (ordered (5 ∷ 10 ∷ 5 ∷ 10 ∷ []) (5 ∷ 10 ∷ []))
unfolding all any least sum set_of ready next to_come groups
ordered_by_hand = (refl, refl, refl)
