-- A function changed at one argument.
use Prim.Native.Nat.{ℕ}
use mathlib.Core.Path.{◌≡◌, refl, ap}
use mathlib.Core.Logic.{◌≢◌}
use mathlib.Core.Bool.{Bool, cond}
use lib.Dec.{eqb}
use borrow.Author.Tests.{eq-eqb, ne_eqb}
use Rattle.records.proofs.General.BoolLaws.{cond_elim}

-- g with e at j
pub put : ℕ → ℕ → (ℕ → ℕ) → ℕ → ℕ
put j e g n = cond (eqb n j) e (g n)

pub put_same : (j e : ℕ) (g : ℕ → ℕ) → put j e g j ≡ e
unfolding put
put_same j e g = ap (λ (t : Bool). cond t e (g j)) (eq-eqb j j refl)

pub put_other : (j e : ℕ) (g : ℕ → ℕ) (n : ℕ) → n ≢ j → put j e g n ≡ g n
unfolding put
put_other j e g n h = ap (λ (t : Bool). cond t e (g n)) (ne_eqb n j h)

pub put_elim : (X : ℕ → Type 0) (j e : ℕ) (g : ℕ → ℕ) (n : ℕ) → X e → X (g n) → X (put j e g n)
unfolding put
put_elim X j e g n h k = cond_elim X (eqb n j) (λ _. h) (λ _. k)
