-- Facts written to a lent list, from place k on.
use Rattle.std.specs.Prelude.{ℕ, ◌+◌, ◌≤◌, Bool, cond, List, [], ◌∷◌, ◌++◌, ◌≡◌, length, take}

-- there is room for l
unfoldable pub Room : ℕ → List ℕ → List ℕ → Type 0
Room k l out = k + length l ≤ length out

-- l stands there now, up to place r, and what stood before it still does
pub record Wrote (k : ℕ) (l out : List ℕ) (r : ℕ) (after : List ℕ) : Type 0 where
  pub end : r ≡ k + length l
  pub words : take r after ≡ take k out ++ l
  pub size : length after ≡ length out

-- a fact, if the test passes
abbrev pub fact_if : Bool → ℕ → List ℕ
fact_if test f = cond test (f ∷ []) []
