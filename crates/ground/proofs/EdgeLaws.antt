-- The edges between nodes as edges between objects, word by word.
use Prim.Native.Nat.{ℕ, zero, suc, ◌≤◌, ◌<◌}
use native.Mathlib.Omega.{arith}
use mathlib.Core.List.{List, [], ◌∷◌, map}
use mathlib.Core.Path.{◌≡◌, refl, sym, ap, ap₂, subst, ◌∙◌}
use lib.ListN.{length, get_or}
use Rattle.chase.specs.Facts.{Edge}
use Rattle.chase.specs.Bounds.{max_nodes}
use Rattle.primary.specs.Words.{edge_of, EdgeIn, EdgesIn}
use Rattle.primary.proofs.WordLaws.{edge_word}
use Rattle.records.proofs.General.Filling.{changed}
use Rattle.ground.specs.Numbers.{Inside, object_in, renumber_in, renumber_word}
use Rattle.ground.proofs.NumberLaws.{object_part_lem}

-- the entry that a loop over a list comes to is as it was
changed_at : (f : ℕ → ℕ) (l : List ℕ) (i : ℕ) → get_or (changed f l i) i 0 ≡ get_or l i 0
changed_at f [] zero = refl
changed_at f [] (suc i) = refl
changed_at f (x ∷ l) zero = refl
changed_at f (x ∷ l) (suc i) = changed_at f l i

pub edge_next : (n : ℕ) (f : ℕ → ℕ) (l m : List ℕ) (i : ℕ) → i < length l → EdgesIn n l → m ≡ changed f l i → EdgeIn n (get_or m i 0)
edge_next n f l m i h k e = subst (EdgeIn n) (sym (ap (λ (j : List ℕ). get_or j i 0) e ∙ changed_at f l i)) (k i h)

module _ (r : List ℕ) (inside : Inside r) (few : length r ≤ max_nodes) where
  word_edge : (w : ℕ) → EdgeIn (length r) w → edge_of (renumber_word r w) ≡ renumber_in r (edge_of w)
  word_edge w e =
      edge_word (edge_of w).attribute (object_in r (edge_of w).origin) (object_in r (edge_of w).target)
      (object_part_lem r _ _ (inside, e.origin) few refl) (object_part_lem r _ _ (inside, e.target) few refl)

  pub words_edges : (l : List ℕ) → EdgesIn (length r) l → map edge_of (map (renumber_word r) l) ≡ map (renumber_in r) (map edge_of l)
  words_edges [] h = refl
  words_edges (w ∷ l) h = ap₂ (λ (e : Edge) (m : List Edge). e ∷ m) (word_edge w (h 0 (omega arith))) (words_edges l (λ i k. h (suc i) (omega arith)))
