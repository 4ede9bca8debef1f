-- The number of facts is a word.
use Rattle.records.specs.Layout.{state_layout, size_at, entries}
use Rattle.legality.proofs.asked.pairs.Goals as goal
use native.Mathlib.Omega.{arith}

pub returns : goal.returns
unfolding entries size_at
returns c =
    record {
      first = c.first_of_kind.ensures;
      last = c.first_of_kind-2.ensures;
      few = omega (arith, c.first_of_kind-2.ensures.within, c.type_inv.state state_layout.counter);
    }
