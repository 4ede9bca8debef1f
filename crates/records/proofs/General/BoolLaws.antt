-- What a joined test tells of its parts, and statements of a choice by what its test says.
use Prim.Native.Nat.{ℕ, ◌≤◌}
use mathlib.Core.Bool.{Bool, true, false, So, cond, not, ◌&&◌, ◌||◌, beq, true≢false, false≢true}
use mathlib.Core.Path.{◌≡◌, refl, sym}
use lib.Dec.{eqb}
use borrow.Author.Tests.{eq-eqb, eqb-true}
use mathlib.Core.Logic.Iff
use mathlib.Core.Logic.{◌⊎◌, inl, inr, ◌↔◌}
use native.Mathlib.Omega.{arith}
use mir.Val.{bool_byte}

pub or_false_left : (a b : Bool) → (a || b) ≡ false → a ≡ false
or_false_left true b e = e
or_false_left false b e = refl

pub or_false_right : (a b : Bool) → (a || b) ≡ false → b ≡ false
or_false_right true b e = absurd (true≢false e)
or_false_right false b e = e

pub or_true_cases : (a b : Bool) → So (a || b) → So a ⊎ So b
or_true_cases true b e = inl refl
or_true_cases false b e = inr e

pub or_left : (a b : Bool) → So a → So (a || b)
or_left true b e = refl
or_left false b e = absurd (false≢true e)

pub or_right : (a b : Bool) → So b → So (a || b)
or_right true b e = refl
or_right false b e = e

pub and_left : (a b : Bool) → So (a && b) → So a
and_left true b e = refl
and_left false b e = e

pub and_right : (a b : Bool) → So (a && b) → So b
and_right true b e = e
and_right false b e = absurd (false≢true e)

pub and_both : (a b : Bool) → So a → So b → So (a && b)
and_both true b p q = q
and_both false b p q = p

-- a test that is not true is false
pub false_of : (a : Bool) → (So a → ⊥) → a ≡ false
false_of true h = absurd (h refl)
false_of false h = refl

pub not_both : (a : Bool) → So a → a ≡ false → ⊥
not_both true p q = true≢false q
not_both false p q = false≢true p

pub not_of_false : (a : Bool) → a ≡ false → So (not a)
not_of_false true e = absurd (true≢false e)
not_of_false false e = refl

pub false_of_not : (a : Bool) → So (not a) → a ≡ false
false_of_not true e = absurd (false≢true e)
false_of_not false e = refl

-- What a joined test says, from what its parts say.

pub and_map : {a b : Bool} {A B : Type 0} → (So a → A) → (So b → B) → So (a && b) → A × B
and_map {a} {b} f g e = (f (and_left a b e), g (and_right a b e))

pub and_three_map : {a b c : Bool} {A B C : Type 0} → (So a → A) → (So b → B) → (So c → C) → So (a && b && c) → A × B × C
and_three_map f g h e = let t = and_map (and_map f g) h e in (t.0.0, t.0.1, t.1)

pub and_iff : {a b : Bool} {A B : Type 0} → So a ↔ A → So b ↔ B → So (a && b) ↔ (A × B)
and_iff {a} {b} f g = (and_map f.0 g.0, λ p. and_both a b (f.1 p.0) (g.1 p.1))

pub and_three_iff : {a b c : Bool} {A B C : Type 0} → So a ↔ A → So b ↔ B → So c ↔ C → So (a && b && c) ↔ (A × B × C)
and_three_iff f g h = (and_three_map f.0 g.0 h.0, λ p. (and_iff (and_iff f g) h).1 ((p.0, p.1), p.2))

pub same_iff : (a b : Bool) → So (beq a b) → So a ↔ So b
same_iff true true e = Iff.rfl
same_iff true false e = absurd (false≢true e)
same_iff false true e = absurd (false≢true e)
same_iff false false e = Iff.rfl

-- Both parts at once.

pub or_false : (a b : Bool) → a || b ≡ false → (a ≡ false) × (b ≡ false)
or_false a b h = (or_false_left a b h, or_false_right a b h)

pub and_parts : (a b : Bool) → So (a && b) → So a × So b
and_parts a b h = (and_left a b h, and_right a b h)

-- of a need that is not unmet
pub met : (a b : Bool) → a && not b ≡ false → So a → So b
met true true h k = refl
met true false h k = absurd (false≢true (sym h))
met false b h k = absurd (false≢true k)

-- a statement of a choice, by what its test says
pub cond_elim : {A : Type 0} (X : A → Type 0) (b : Bool) {x y : A} → (So b → X x) → (b ≡ false → X y) → X (cond b x y)
cond_elim X true h k = h refl
cond_elim X false h k = k refl

-- .. and of two choices by one test
pub cond_elim₂ : {A B : Type 0} (X : A → B → Type 0) (b : Bool) {x y : A} {z w : B} → (So b → X x z) → (b ≡ false → X y w)
    → X (cond b x y) (cond b z w)
cond_elim₂ X true h k = h refl
cond_elim₂ X false h k = k refl

-- Two tests that hold together are equal.

pub test_same : (a b : Bool) → (So a → So b) → (So b → So a) → a ≡ b
test_same true b f g = sym (f refl)
test_same false true f g = g refl
test_same false false f g = refl

pub eqb_same : (a b c d : ℕ) → (a ≡ b → c ≡ d) → (c ≡ d → a ≡ b) → eqb a b ≡ eqb c d
eqb_same a b c d f g = test_same (eqb a b) (eqb c d) (λ t. eq-eqb c d (f (eqb-true a b t))) (λ t. eq-eqb a b (g (eqb-true c d t)))

-- a choice that does not come to the first of two: the test fails
pub not_first : {A : Type 0} (X : A → Type 0) (x y : A) → (X x → ⊥) → (a : Bool) → X (cond a x y) → (a ≡ false) × X y
not_first X x y k true e = absurd (k e)
not_first X x y k false e = (refl, e)

-- a test as a number
pub byte_small : (b : Bool) → bool_byte b ≤ 1
byte_small true = omega arith
byte_small false = omega arith

pub and_factor : (n a b : Bool) → ((n && a) && (n && b)) ≡ (n && (a && b))
and_factor true a b = refl
and_factor false a b = refl
