-- How the groups are found one after the other.
use Prim.Native.Nat.{ℕ, ◌+◌, ◌≤◌, ◌<◌}
use mathlib.Core.Bool.{Bool, true, false, cond, not, ◌&&◌, ◌||◌}
use mathlib.Core.List.{List}
use mathlib.Core.Path.{◌≡◌, refl, sym, ap, ap₂, ◌∙◌}
use native.Mathlib.Decide.{dec_lt}
use native.Mathlib.Nat.{le_antisymm}
use native.Mathlib.Numerals.{add-one}
use native.Mathlib.Omega.{arith}
use borrow.Author.Tests.{lt-ltb, le-ltb, ltb-true, ltb-false, eq-eqb, ne_eqb}
use Rattle.std.specs.Prelude.{Some, None}
use Rattle.std.proofs.lemmas.Option.{none-some, cond_some}
use lib.Bits.{bit_or}
use lib.Dec.{eqb, ltb}
use lib.ListN.{length, get_or, set}
use Rattle.records.specs.Finite.{any, bit, set_of}
use Rattle.records.specs.Layout.{max_views}
use Rattle.records.proofs.General.BitLaws.{word_or, word_zero}
use Rattle.records.proofs.General.FiniteLaws.{any_zero, any_still, any_none, any_same, least_is, least_le, least_same}
use Rattle.records.proofs.General.SetLaws.{set_bit, set_digit}
use Rattle.catalogue.specs.Order.{together, narrower, ready, next, to_come, lowest, groups, in_group}
use Rattle.catalogue.specs.Answers.{Arranged}
use Rattle.catalogue.specs.Helpers.{unplaced}
use Rattle.catalogue.proofs.FilledLaws.{Filled, filled_none, filled_more}

-- what is next depends on which views are to come alone
pub next_same : (n : ℕ) (held : ℕ → ℕ → Bool) (t u : ℕ → Bool) → ((i : ℕ) → i < n → t i ≡ u i) → next n held t ≡ next n held u
unfolding next ready
next_same n held t u e = least_same _ _ n (λ i h. ap₂ (λ a b. a && not b) (e i h) (any_same _ _ n (λ j k _. ap (λ a. a && narrower held j i) (e j k))))

next_le : (n : ℕ) (held : ℕ → ℕ → Bool) (t : ℕ → Bool) → next n held t ≤ n
unfolding next
next_le n held t = least_le (ready n held t) n

-- what the search for the next view finds
module _ (k n : ℕ) where
  search_found : {m : ℕ} → cond (ltb k n) (Some k) None ≡ Some m → (m ≡ k) × (k < n)
  search_found e = let z = cond_some _ _ _ e in (sym z.1, ltb-true k n z.0)

  search_ended : cond (ltb k n) (Some k) None ≡ None → n ≤ k
  search_ended e = ltb-false k n (pick (ltb k n) e)
    where
      pick : (b : Bool) → cond b (Some k) None ≡ None → b ≡ false
      pick true e = absurd (none-some k (sym e))
      pick false e = refl

not_or : (a b : Bool) → not (a || b) ≡ (not a && not b)
not_or true b = refl
not_or false b = refl

module _ (n : ℕ) (held : ℕ → ℕ → Bool) where
  -- the first k groups are found, none of them after the last
  pub record Placed (k : ℕ) (found : List ℕ) (placed : ℕ) : Type 0 where
    pub filled : Filled 0 max_views (λ l x. x ≡ set_of n (together held (lowest n held l))) (λ l x. x ≡ 0) k found
    pub left : (i : ℕ) → i < n → unplaced placed i ≡ to_come n held k i
    pub each : any k (λ l. eqb (lowest n held l) n) ≡ false

  pub placed_none : (zeros : List ℕ) → length zeros ≡ max_views → ((k : ℕ) → k < max_views → get_or zeros k 0 ≡ 0) → Placed 0 zeros 0
  unfolding to_come
  placed_none zeros s z =
      record { filled = filled_none _ _ _ _ zeros s z; left = λ i h. ap not (word_zero i); each = any_zero _ }

  module _ {k : ℕ} {found : List ℕ} {placed : ℕ} (z : Placed k found placed) where
    placed_next : next n held (unplaced placed) ≡ lowest n held k
    placed_next = next_same n held _ _ z.left

    abbrev next_view : ℕ
    next_view = next n held (unplaced placed)

    -- the search for the next group ends, or finds it
    pub placed_ended : cond (ltb next_view n) (Some next_view) None ≡ None → lowest n held k ≡ n
    placed_ended e = sym placed_next ∙ le_antisymm (next_le n held (unplaced placed)) (search_ended next_view n e)

    pub placed_found : {m : ℕ} → cond (ltb next_view n) (Some next_view) None ≡ Some m → (m ≡ lowest n held k) × (m < n)
    placed_found e = let f = search_found next_view n e in (f.0 ∙ placed_next, omega (arith, f.0, f.1))

    pub placed_more : k < max_views → (v : ℕ) → (lowest n held k ≡ n → ⊥) → v ≡ set_of n (together held (lowest n held k))
        → Placed (k + 1) (set found k v) (bit_or placed v)
    unfolding to_come
    placed_more h v m e =
        record {
          filled = filled_more _ _ _ _ found k v z.filled h e;
          left = λ i l.
              ap not (word_or placed v i) ∙ not_or (bit placed i) (bit v i)
              ∙ ap₂ (λ (a b : Bool). a && not b) (z.left i l) (ap (λ (x : ℕ). bit x i) e ∙ set_bit (together held (lowest n held k)) n i l)
              ∙ sym (ap (λ (m : ℕ). to_come n held m i) (add-one k));
          each = any_still _ k z.each (ne_eqb (lowest n held k) n m);
        }

    placed_count : k ≤ n → (k < n → lowest n held k ≡ n) → groups n held ≡ k
    unfolding groups
    placed_count h last = least_is _ n k h (λ l. eq-eqb _ n (last l)) (any_none _ k z.each)

    -- no group is next
    pub placed_all : k ≤ n → (k < n → lowest n held k ≡ n) → Arranged n held (record { groups = found; count = k })
    placed_all h last = record { sets = record { size = z.filled.size; digits = digit }; number = sym count }
      where
        count : groups n held ≡ k
        count = placed_count h last

        digit : (i j : ℕ) → i < max_views → bit (get_or found i 0) j ≡ in_group n held i j
        digit i j b =
            elim (dec_lt i k) [
              | yes l ↦ rw (z.filled.first i l, count, lt-ltb i k l) (set_digit (together held (lowest n held i)) n j)
              | no m ↦ rw (z.filled.rest i (omega arith) b, count, le-ltb i k (omega arith)) (word_zero j)
            ]
