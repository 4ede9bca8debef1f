-- An array that a loop fills from the start: X holds of each of the first i entries, and Y of each of the others.
use Prim.Native.Nat.{ℕ, ◌+◌, ◌≤◌, ◌<◌}
use mathlib.Core.List.{List}
use mathlib.Core.Path.{◌≡◌, sym, subst, ◌∙◌}
use native.Mathlib.Decide.{ℕ_discrete}
use native.Mathlib.Omega.{arith}
use lib.ListN.{length, get_or, set, length-set}
use lib.Seq.{get_or-set_same, get_or-set_other}

module _ {A : Type 0} (d : A) (n : ℕ) (X Y : ℕ → A → Type 0) where
  pub record Filled (i : ℕ) (l : List A) : Type 0 where
    pub size : length l ≡ n
    pub first : (k : ℕ) → k < i → X k (get_or l k d)
    pub rest : (k : ℕ) → i ≤ k → k < n → Y k (get_or l k d)

  pub filled_none : (l : List A) → length l ≡ n → ((k : ℕ) → k < n → Y k (get_or l k d)) → Filled 0 l
  filled_none l s y = record { size = s; first = λ k h. absurd (omega arith); rest = λ k h b. y k b }

  -- X holds of what is stored next, and the others stay
  pub filled_more : (l : List A) (i : ℕ) (v : A) → Filled i l → i < n → X i v → Filled (i + 1) (set l i v)
  filled_more l i v z b x =
      record {
        size = length-set l i v ∙ z.size;
        first = λ k h.
            elim (ℕ_discrete k i) [
              | yes e ↦ rw e (subst (X i) (sym (get_or-set_same l i v d (omega (arith, z.size)))) x)
              | no m ↦ subst (X k) (sym (get_or-set_other l i k v d m)) (z.first k (omega arith))
            ];
        rest = λ k h c. subst (Y k) (sym (get_or-set_other l i k v d (λ e. omega arith))) (z.rest k (omega arith) c);
      }
