-- Room for relations: their words, also with the two exchanged, and how many words three relations need. Each is a bound on the list's length.
use Prim.Native.Nat.{ℕ, ◌+◌, ◌*◌, ◌≤◌}
use mathlib.Core.List.{List}
use mathlib.Core.Logic.{inl, inr, ⊎_elim}
use mathlib.Core.Path.{◌≡◌}
use native.Mathlib.Nat.{add-mul, mul-le-mul}
use native.Mathlib.Omega.{arith}
use lib.ListN.{length}
use Rattle.paths.specs.declared.relation.Bases.{Bases}
use Rattle.rows.specs.Blocks.{block_words, blocks_for, relation_words}
use Rattle.paths.specs.Relation.{Room}

pub room_same : {n : ℕ} {b : Bases} {ws us : List ℕ} → Room n b ws → length us ≡ length ws → Room n b us
room_same z e =
    record { rel = rw e z.rel; spare = rw e z.spare; apart = z.apart; wide = z.wide; few = rw e z.few }

-- the two exchanged
pub room_turned : {n : ℕ} {b : Bases} {ws : List ℕ} → Room n b ws → Room n (record { rel = b.spare; spare = b.rel; blocks = b.blocks }) ws
room_turned z =
    record { rel = z.spare; spare = z.rel; apart = ⊎_elim inr inl z.apart; wide = z.wide; few = z.few }

-- the relation's words, and the end of a row of either
module _ {n : ℕ} (b : Bases) {ws : List ℕ} (z : Room n b ws) where
  pub room_words : b.rel * b.blocks * block_words + n * b.blocks * block_words ≤ length ws
  room_words = omega (arith, z.rel, add-mul b.rel n b.blocks)

-- more objects need no fewer words
pub relation_most : {n m : ℕ} → n ≤ m → relation_words n ≤ relation_words m
relation_most {n} {m} l = omega (arith, mul-le-mul {m₁ = blocks_for n} {m₂ = blocks_for m} l (omega arith))
