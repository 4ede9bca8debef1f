-- An array that `from_fn` makes by a closure that changes nothing: what holds of the answer of each call holds of each entry.
use Prim.Native.Nat.{ℕ, zero, suc, ◌+◌, ◌≤◌, ◌<◌}
use mathlib.Core.List.{List}
use mathlib.Core.Path.{◌≡◌, sym, subst}
use native.Mathlib.Decide.{ℕ_discrete}
use native.Mathlib.Omega.{arith}
use lib.ListN.{get_or}
use denote.Param.Members.{Mut, Called}
use Rattle.std.specs.Array.{IsFromFnResultFrom, IsFromFnResult}

module _ {F B : Type 0} {g : Mut F (ℕ × Unit {0}) B} (f : F) (ys : List B) (X : ℕ → B → Type 0)
    (call : (i : ℕ) (y : B) (q : F) → Called g f (i, tt) y q → (q ≡ f) × X i y) where
  entries_from : (a n : ℕ) → IsFromFnResultFrom g f ys a n → (d : B) (k : ℕ) → a ≤ k → k < a + n → X k (get_or ys k d)
  entries_from a zero z d k h l = absurd (omega arith)
  entries_from a (suc n) (q, y, is, c, rest) d k h l =
      elim (ℕ_discrete k a) [
        | yes e ↦ rw e (subst (X a) (sym (is.1 d)) (call a y q c).1)
        | no m ↦ entries_from (a + 1) n (subst (λ (p : F). IsFromFnResultFrom g p ys (a + 1) n) (call a y q c).0 rest) d k (omega arith) (omega arith)
      ]

pub entry_from_fn : {F B : Type 0} {g : Mut F (ℕ × Unit {0}) B} {f : F} {ys : List B} {n : ℕ} (X : ℕ → B → Type 0)
    → ((i : ℕ) (y : B) (q : F) → Called g f (i, tt) y q → (q ≡ f) × X i y) → IsFromFnResult g f ys n → (d : B) (k : ℕ) → k < n → X k (get_or ys k d)
entry_from_fn {f = f} {ys = ys} {n = n} X call made d k h = entries_from f ys X call 0 n made.each d k (omega arith) (omega arith)
