-- Sets of views as words: joining, meeting, and the sets of one view and of a group.
use Prim.Native.Nat.{ℕ, ◌^◌, ◌≤◌, ◌<◌}
use mathlib.Core.Bool.{Bool, true, false, So, cond, false≢true}
use mathlib.Core.List.{List}
use mathlib.Core.Logic.{◌⊎◌, inl, inr, ⊎_elim}
use mathlib.Core.Path.{◌≡◌, refl, sym, ap, ◌∙◌}
use native.Mathlib.Decide.{dec_lt}
use native.Mathlib.Omega.{arith}
use borrow.Author.Tests.{eqb-false, not-true}
use lib.Bits.{bit_and, bit_or}
use lib.ListN.{get_or-eq_default}
use lib.Pow.{pow_mono}
use Rattle.records.specs.Finite.{bit, set_of}
use Rattle.records.specs.Layout.{max_views}
use Rattle.records.proofs.General.BitLaws.{word_or, word_zero, and_some}
use Rattle.records.proofs.General.BoolLaws.{or_true_cases, or_left, or_right}
use Rattle.records.proofs.General.SetLaws.{set_small}
use Rattle.catalogue.specs.Helpers.{Rows, in_row, meets, joined}

-- two sets that meet share a view
pub meets_some : (a b : ℕ) → So (meets a b) → (k : ℕ) × So (bit a k) × So (bit b k)
unfolding meets
meets_some a b h = and_some a b (eqb-false (bit_and a b) 0 (not-true _ h))

-- what is in a joined row was in it, or is in what is joined to it by i
pub joined_cases : (i above row k : ℕ) → So (bit (joined i above row) k) → So (bit row k) ⊎ (So (bit row i) × So (bit above k))
unfolding joined
joined_cases i above row k = pick (bit row i) refl
  where
    pick : (t : Bool) → bit row i ≡ t → So (bit (cond t (bit_or row above) row) k) → So (bit row k) ⊎ (So (bit row i) × So (bit above k))
    pick true e h = ⊎_elim inl (λ x. inr (e, x)) (or_true_cases (bit row k) (bit above k) (sym (word_or row above k) ∙ h))
    pick false e h = inl h

pub joined_keeps : (i above row k : ℕ) → So (bit row k) → So (bit (joined i above row) k)
unfolding joined
joined_keeps i above row k h = pick (bit row i)
  where
    pick : (t : Bool) → So (bit (cond t (bit_or row above) row) k)
    pick true = word_or row above k ∙ or_left (bit row k) (bit above k) h
    pick false = h

pub joined_adds : (i above row k : ℕ) → So (bit row i) → So (bit above k) → So (bit (joined i above row) k)
unfolding joined
joined_adds i above row k e h = rw e (word_or row above k ∙ or_right (bit row k) (bit above k) h)

-- only a row that is there has something in it
pub row_inside : (rows : List ℕ) (a b : ℕ) → Rows rows → So (in_row rows a b) → a < max_views
row_inside rows a b s h =
    elim (dec_lt a max_views) [
      | yes l ↦ l
      | no m ↦ absurd (false≢true (sym (word_zero b) ∙ ap (λ x. bit x b) (sym (get_or-eq_default rows 0 (omega (arith, s)))) ∙ h))
    ]

-- a set of at most 16 views is a word
pub set_word : (f : ℕ → Bool) (n : ℕ) → n ≤ max_views → set_of n f < 2 ^ 16
set_word f n h = omega (arith, set_small f n, pow_mono {i = n} {j = max_views} h)
