-- The table of what stood last beside each number (Standing), and words of equations as words of ties.
use Prim.Native.Nat.{ℕ, ◌+◌, ◌-◌, ◌/◌, ◌%◌, ◌≤◌, ◌<◌}
use native.Mathlib.Decide.{ℕ_discrete, dec_lt}
use native.Mathlib.Omega.{arith}
use mathlib.Core.Bool.{Bool, cond}
use mathlib.Core.List.{List, [], ◌∷◌, map}
use mathlib.Core.Path.{◌≡◌, refl, sym, ap, ap₂, ◌∙◌}
use lib.Dec.{eqb}
use lib.ListN.{length, get_or, set, length-set, replicate, length-replicate, get_or-replicate}
use lib.Seq.{get_or-set_same, get_or-set_other}
use borrow.Author.Tests.{lt-ltb, le-ltb, eq-eqb, ne_eqb}
use Rattle.chase.specs.Bounds.{max_nodes}
use Rattle.chase.specs.Task.{stands, later, Tie, tie}
use Rattle.records.proofs.General.TurnLaws.{passed, passed_none, passed_more, passed_all}
use Rattle.primary.specs.Words.{part, node_in, tie_of}
use Rattle.primary.proofs.WordLaws.{tie_word_lem}
use Rattle.asked.specs.Listed.{equation_of}
use Rattle.asked.specs.Marked.{LeftsIn, Anchored, Small, tie_word}

-- mark k stands in an equation if the right part of its word is the mark's number
stands_word : (k w : ℕ) → stands k (equation_of w) ≡ eqb (w % part) (max_nodes + k)
stands_word k w = pick (dec_lt (w % part) max_nodes)
  where
    pick : Dec (w % part < max_nodes) → stands k (equation_of w) ≡ eqb (w % part) (max_nodes + k)
    pick (yes l) = rw (lt-ltb (w % part) max_nodes l, ne_eqb (w % part) (max_nodes + k) (λ e. omega arith))
    pick (no n) = rw (le-ltb (w % part) max_nodes (omega arith)) (same (ℕ_discrete k (w % part - max_nodes)))
      where
        same : Dec (k ≡ w % part - max_nodes) → eqb k (w % part - max_nodes) ≡ eqb (w % part) (max_nodes + k)
        same (yes e) = rw (eq-eqb k (w % part - max_nodes) e, eq-eqb (w % part) (max_nodes + k) (omega arith))
        same (no d) = rw (ne_eqb k (w % part - max_nodes) d, ne_eqb (w % part) (max_nodes + k) (λ e. d (omega arith)))

-- after i words
pub record Standing (d : ℕ) (words : List ℕ) (i : ℕ) (nodes : List ℕ) : Type 0 where
  pub room : length nodes ≡ part
  pub value : (k : ℕ) → max_nodes + k < part → node_in nodes k ≡ passed (later k) equation_of words i d
  pub below : (r : ℕ) → r < part → get_or nodes r 0 < part

module _ (d : ℕ) (words : List ℕ) where
  pub standing_none : d < part → Standing d words 0 (replicate part d)
  standing_none h =
      record {
        room = length-replicate part d;
        value = λ k l. get_or-replicate part (max_nodes + k) d 0 l ∙ passed_none (later k) equation_of words d;
        below = λ r l. omega (arith, get_or-replicate part r d 0 l);
      }

  pub standing_more : {i : ℕ} {nodes : List ℕ} (s v : ℕ) → Standing d words i nodes → i < length words → LeftsIn words
      → s ≡ get_or words i 0 % part → v ≡ get_or words i 0 / part → Standing d words (i + 1) (set nodes s v)
  standing_more {i} {nodes} s v z h lefts p q =
      record {
        room = length-set nodes s v ∙ z.room;
        value = λ k l.
            passed_more (later k) equation_of words i d (node_in nodes k) _ h (z.value k l)
            (put k (ℕ_discrete s (max_nodes + k)) ∙ ap (λ (b : Bool). cond b (get_or words i 0 / part) (node_in nodes k)) (sym (stands_word k (get_or words i 0))));
        below = λ r l. small r l (ℕ_discrete s r);
      }
    where
      inside : s < length nodes
      inside = omega (arith, p, z.room)

      put : (k : ℕ) → Dec (s ≡ max_nodes + k)
          → node_in (set nodes s v) k ≡ cond (eqb (get_or words i 0 % part) (max_nodes + k)) (get_or words i 0 / part) (node_in nodes k)
      put k (yes e) = rw (← p, ← q, eq-eqb s (max_nodes + k) e, ← e) (get_or-set_same nodes s v 0 inside)
      put k (no n) = rw (← p, ← q, ne_eqb s (max_nodes + k) n) (get_or-set_other nodes s (max_nodes + k) v 0 (λ e. n (sym e)))

      small : (r : ℕ) → r < part → Dec (s ≡ r) → get_or (set nodes s v) r 0 < part
      small r l (yes e) = rw (← e, get_or-set_same nodes s v 0 inside, q) (lefts i h)
      small r l (no n) = rw (get_or-set_other nodes s r v 0 (λ e. n (sym e))) (z.below r l)

  pub standing_all : {i : ℕ} {nodes : List ℕ} → length words ≤ i → Standing d words i nodes → Anchored d words nodes
  standing_all {i} h z =
      record { room = z.room; value = λ k l. passed_all (later k) equation_of words i d _ h (z.value k l) }

-- Ties.

module _ (nodes : List ℕ) (small : Small nodes) (at : ℕ → ℕ) (is : (k : ℕ) → max_nodes + k < part → node_in nodes k ≡ at k) where
  word_tie : (w : ℕ) → tie_of (tie_word nodes w) ≡ tie at (equation_of w)
  word_tie w = pick (dec_lt (w % part) max_nodes)
    where
      pick : Dec (w % part < max_nodes) → tie_of (tie_word nodes w) ≡ tie at (equation_of w)
      pick (yes l) = rw (lt-ltb (w % part) max_nodes l)
      pick (no n) =
          let e : w % part ≡ max_nodes + (w % part - max_nodes) = omega arith in
          rw (le-ltb (w % part) max_nodes (omega arith))
          (tie_word_lem (w / part) (get_or nodes (w % part) 0) (small.below (w % part) (omega arith))
          ∙ ap (λ (m : ℕ). record { left = w / part; right = m }) (ap (λ (r : ℕ). get_or nodes r 0) e ∙ is (w % part - max_nodes) (omega arith)))

  pub words_ties : (l : List ℕ) → map tie_of (map (tie_word nodes) l) ≡ map (tie at) (map equation_of l)
  words_ties [] = refl
  words_ties (w ∷ l) = ap₂ (λ (f : Tie) (m : List Tie). f ∷ m) (word_tie w) (words_ties l)
