-- The forest kept in arrays: made object k stands at entry k - objects of the makers, the attributes and the class sets.
use Prim.Native.Nat.{ℕ, zero, suc, ◌+◌, ◌-◌, ◌≤◌, ◌<◌}
use native.Mathlib.Omega.{arith}
use mathlib.Core.Bool.{Bool, cond}
use mathlib.Core.List.{[], ◌∷◌}
use mathlib.Core.Path.{◌≡◌, refl, sym, ap, ap₂, ◌∙◌}
use lib.Dec.{eqb}
use lib.ListN.{length, get_or, length-append, get_or-append}
use lib.Seq.{get_or_at}
use borrow.Author.Tests.{eq-eqb, ne_eqb}
use Rattle.records.specs.Schema.{Schema}
use Rattle.chase.specs.Ground.{Ground}
use Rattle.chase.specs.Forest.{Forest, bare, grow, size, parent, classes_of, entries, makers, labels, made_sets}
use Rattle.records.proofs.General.CountLaws.{up_to}

-- an older entry stays, and the newest is last
module _ (f : ℕ → ℕ → ℕ → ℕ) where
  pub entries_length : (G : Ground) (T : Forest) → G.objects + length (entries f T) ≡ size G T
  unfolding size entries
  entries_length G bare = omega arith
  entries_length G (grow T d P c) = omega (arith, entries_length G T, length-append (entries f T) (f d P c ∷ []))

  older : (T : Forest) (d P c i : ℕ) → i < length (entries f T) → get_or (entries f (grow T d P c)) i 0 ≡ get_or (entries f T) i 0
  unfolding entries
  older T d P c i h = get_or-append (entries f T) (f d P c ∷ []) 0 i h

  newest : (T : Forest) (d P c i : ℕ) → length (entries f T) ≡ i → get_or (entries f (grow T d P c)) i 0 ≡ f d P c
  unfolding entries
  newest T d P c i q = get_or_at (entries f T) (f d P c) [] 0 i q

module _ (G : Ground) where
  -- the entry of made object k
  at : (ℕ → ℕ → ℕ → ℕ) → Forest → ℕ → ℕ
  at f T k = get_or (entries f T) (k - G.objects) 0

  at_older : (f : ℕ → ℕ → ℕ → ℕ) (T : Forest) (d P c k : ℕ) → G.objects ≤ k → k < size G T → at f (grow T d P c) k ≡ at f T k
  unfolding at
  at_older f T d P c k a b = older f T d P c (k - G.objects) (omega (arith, entries_length f G T))

  at_newest : (f : ℕ → ℕ → ℕ → ℕ) (T : Forest) (d P c : ℕ) → at f (grow T d P c) (size G T) ≡ f d P c
  unfolding at
  at_newest f T d P c = newest f T d P c (size G T - G.objects) (omega (arith, entries_length f G T))

  pub classes_entry : (S : Schema) (T : Forest) (k : ℕ) → G.objects ≤ k → k < size G T
      → classes_of S G T k ≡ get_or (made_sets T) (k - G.objects) 0
  unfolding classes_of size at
  classes_entry S bare k a b = absurd (omega arith)
  classes_entry S (grow T d P c) k a b =
      up_to (λ j. G.objects ≤ j → classes_of S G (grow T d P c) j ≡ at (λ d P c. c) (grow T d P c) j) (size G T)
      (λ j h l.
      ap (λ (b : Bool). cond b c (classes_of S G T j)) (ne_eqb j (size G T) (omega arith)) ∙ classes_entry S T j l h
      ∙ sym (at_older (λ d P c. c) T d P c j l h))
      (λ l.
      ap (λ (b : Bool). cond b c (classes_of S G T (size G T))) (eq-eqb (size G T) (size G T) refl) ∙ sym
      (at_newest (λ d P c. c) T d P c)) k b a

  pub parent_entry : (P : ℕ) (T : Forest) (k : ℕ) → G.objects ≤ k → k < size G T
      → parent G T P k ≡ cond (eqb (get_or (labels T) (k - G.objects) 0) P) (suc (get_or (makers T) (k - G.objects) 0)) zero
  unfolding parent size at
  parent_entry P bare k a b = absurd (omega arith)
  parent_entry P (grow T m R c) k a b =
      up_to (λ j. G.objects ≤ j → parent G (grow T m R c) P j ≡ of (at label (grow T m R c) j) (at maker (grow T m R c) j)) (size G T)
      (λ j h l.
      ap (λ (b : Bool). cond b (of R m) (parent G T P j)) (ne_eqb j (size G T) (omega arith)) ∙ parent_entry P T j l h
      ∙ ap₂ of (sym (at_older label T m R c j l h)) (sym (at_older maker T m R c j l h)))
      (λ l.
      ap (λ (b : Bool). cond b (of R m) (parent G T P (size G T))) (eq-eqb (size G T) (size G T) refl)
      ∙ ap₂ of (sym (at_newest label T m R c)) (sym (at_newest maker T m R c))) k b a
    where
      of : ℕ → ℕ → ℕ
      of R m = cond (eqb R P) (suc m) zero

      label : ℕ → ℕ → ℕ → ℕ
      label = λ d P c. P

      maker : ℕ → ℕ → ℕ → ℕ
      maker = λ d P c. d
