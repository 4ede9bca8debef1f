-- A pass over facts that are given as lists, and the sum of a list.
use Rattle.std.specs.Prelude.{ℕ, ◌*◌, ◌^◌, ◌≤◌, List, ◌≡◌, length}
use Rattle.records.specs.Schema.{Schema}
use Rattle.records.specs.Helpers.Loops.{each, upto}
use Rattle.chase.specs.Facts.{Membership, Edge}
use Rattle.chase.specs.Task.{Tie}
use Rattle.chase.specs.Primary.{Prime, equate, assert, lift, total}
use Rattle.primary.specs.Words.{type_edge, unify_row}

unfoldable pub pass_on : Schema → List Membership → List Tie → List Edge → ℕ → Prime → Prime
pass_on S ms qs es n x = each (unify_row S es) es (each (type_edge S) es (upto (lift S) n (each assert ms (each equate qs x))))

pub record Sum (l : List ℕ) (r : ℕ) : Type 0 where
  pub value : r ≡ total l
  pub small : r ≤ length l * 2 ^ 32
