-- Where the facts of a kind stand.
use Rattle.std.specs.Prelude.{ℕ, ◌≤◌, ◌<◌, List}
use Rattle.records.specs.Layout.{state_layout, entries}
use Rattle.records.specs.StateRecord.{kind_at}

-- no fact has a lower kind than one before it
abbrev pub KindsRise : List ℕ → Type 0
KindsRise w = (f g : ℕ) → f ≤ g → g < entries state_layout w → kind_at w f ≤ kind_at w g

-- The facts before low have lower kinds than k, and those from high on do not. Where the two meet the row of k begins.
pub record KindParts (w : List ℕ) (k low high : ℕ) : Type 0 where
  pub ordered : low ≤ high
  pub within : high ≤ entries state_layout w
  pub lower : (f : ℕ) → f < low → kind_at w f < k
  pub rest : (f : ℕ) → high ≤ f → f < entries state_layout w → k ≤ kind_at w f
