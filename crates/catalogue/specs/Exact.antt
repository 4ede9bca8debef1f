-- What the order of an accepted catalogue means, in the terms of Held (theorem order_exact of proofs/Exactness): held is
-- reflexive and transitive, the groups are the classes of views that hold each other, none is empty, each view is in exactly one,
-- and no group comes before a narrower one. Groups are numbered from 0, so that of any two one comes first.
use Rattle.std.specs.Prelude.{ℕ, ◌<◌, ◌↔◌, ◌≡◌}

-- n views, of which HeldBy says which are held by which, in so many groups, of which InGroup says which view is in which
pub record InOrder (n : ℕ) (HeldBy : ℕ → ℕ → Type 0) (groups : ℕ) (InGroup : ℕ → ℕ → Type 0) : Type 0 where
  pub self : (i : ℕ) → i < n → HeldBy i i
  pub through : (i j k : ℕ) → i < n → j < n → k < n → HeldBy i j → HeldBy j k → HeldBy i k
  pub inside : (k i : ℕ) → InGroup k i → (k < groups) × (i < n)
  pub some : (k : ℕ) → k < groups → (i : ℕ) × InGroup k i
  pub one : (i : ℕ) → i < n → (k : ℕ) × InGroup k i × ((l : ℕ) → InGroup l i → l ≡ k)
  pub classes : (k i j : ℕ) → InGroup k i → j < n → InGroup k j ↔ (HeldBy i j × HeldBy j i)
  pub narrow_first : (k l i j : ℕ) → InGroup k i → InGroup l j → HeldBy i j → (HeldBy j i → ⊥) → k < l
