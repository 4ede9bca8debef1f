-- A turn more of a loop: over numbers, and over words that stand for entries.
use Prim.Native.Nat.{ℕ, ◌+◌, ◌<◌, ◌≤◌}
use native.Mathlib.Numerals.{add-one}
use mathlib.Core.List.{List, [], ◌∷◌, map}
use mathlib.Core.Path.{◌≡◌, refl, sym, ap, ◌∙◌}
use lib.ListN.{length, get_or, take}
use lib.Seq.{take_all}
use Rattle.records.specs.Helpers.Loops.{upto, each}
use Rattle.records.proofs.General.LoopLaws.{each_next}

module _ {X : Type 0} (run : ℕ → X → X) where
  pub upto_none : (x : X) → x ≡ upto run 0 x
  unfolding upto
  upto_none x = refl

  -- y after n turns, and z after one more
  pub upto_more : (n : ℕ) (x y z : X) → y ≡ upto run n x → z ≡ run n y → z ≡ upto run (n + 1) x
  unfolding upto
  upto_more n x y z h k = rw add-one (k ∙ ap (run n) h)

  pub upto_all : (i n : ℕ) (x y : X) → y ≡ upto run i x → i ≡ n → y ≡ upto run n x
  upto_all i n x y h e = h ∙ ap (λ (k : ℕ). upto run k x) e

each_map : {A X : Type 0} (run : A → X → X) (f : ℕ → A) (l : List ℕ) (x : X) → each run (map f l) x ≡ each (λ w. run (f w)) l x
unfolding each
each_map run f [] x = refl
each_map run f (w ∷ l) x = each_map run f l (run (f w) x)

module _ {A X : Type 0} (run : A → X → X) (f : ℕ → A) (l : List ℕ) where
  abbrev pub passed : ℕ → X → X
  passed i = each (λ w. run (f w)) (take i l)

  pub passed_none : (x : X) → x ≡ passed 0 x
  unfolding each
  passed_none x = refl

  pub passed_more : (i : ℕ) (x y z : X) → i < length l → y ≡ passed i x → z ≡ run (f (get_or l i 0)) y → z ≡ passed (i + 1) x
  passed_more i x y z h p q =
      rw add-one (q ∙ ap (run (f (get_or l i 0))) p ∙ sym (each_next (λ w. run (f w)) l i 0 h x))

  pub passed_all : (i : ℕ) (x y : X) → length l ≤ i → y ≡ passed i x → y ≡ each run (map f l) x
  passed_all i x y h p = p ∙ ap (λ m. each (λ w. run (f w)) m x) (take_all i l h) ∙ sym (each_map run f l x)
