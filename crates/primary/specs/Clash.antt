-- Two of the constants that are to differ, whose nodes stand in a row, have one representative.
use Rattle.std.specs.Prelude.{ℕ, ◌+◌, Bool, List, get_or}
use Rattle.records.specs.declared.schema.Signature.{Signature}
use Rattle.records.specs.Finite.{any}
use Rattle.records.specs.State.{repeats}

-- the representative of constant a's node
abbrev pub rep_at : List ℕ → ℕ → ℕ → ℕ
rep_at reps first a = get_or reps (first + a) 0

abbrev pub clashes_in : Signature → List ℕ → ℕ → Bool
clashes_in s reps first = any s.constants (repeats s (rep_at reps first))
