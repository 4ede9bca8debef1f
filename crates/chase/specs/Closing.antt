-- The closing object u: the value of each attribute that an object lacks.
use Rattle.std.specs.Prelude.{ℕ, Bool, ◌&&◌, ◌||◌, eqb}
use Rattle.records.specs.State.{State}

-- F with the pair (d, u) of P for each d that lacks P
abbrev pub closed : State → (ℕ → ℕ → Bool) → ℕ → State
closed F lack u =
    record {
      size = F.size;
      members = F.members;
      pairs = λ P d e. F.pairs P d e || lack P d && eqb e u;
      names = F.names;
      marks = F.marks;
    }
