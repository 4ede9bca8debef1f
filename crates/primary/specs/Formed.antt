-- The primary part in two lists of one length, and what a function leaves in them.
use Rattle.std.specs.Prelude.{ℕ, ◌<◌, cond, List, ◌≡◌, eqb, length, get_or}
use Rattle.chase.specs.Primary.{Prime}

abbrev pub prime : List ℕ → List ℕ → Prime
prime reps sets = record { reps = reps; sets = sets }

-- the representative after low went to high
abbrev pub moved : ℕ → ℕ → ℕ → ℕ
moved low high rep = cond (eqb rep low) high rep

-- there is a set for each node, and each representative is a node
pub record Formed (reps sets : List ℕ) : Type 0 where
  pub paired : length sets ≡ length reps
  pub inside : (i : ℕ) → i < length reps → get_or reps i 0 < length reps

-- n nodes, as the model has them
pub record Becomes (n : ℕ) (reps sets : List ℕ) (x : Prime) : Type 0 where
  pub value : prime reps sets ≡ x
  pub formed : Formed reps sets
  pub size : length reps ≡ n
