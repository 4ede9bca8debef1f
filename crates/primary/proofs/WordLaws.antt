-- The word of a fact is read back as its parts: a word of two parts, and of three.
use Prim.Native.Nat.{ℕ, ◌+◌, ◌*◌, ◌/◌, ◌%◌, ◌<◌}
use native.Mathlib.Omega.{arith}
use mathlib.Core.Path.{◌≡◌, ap₂, ◌∙◌}
use Rattle.primary.specs.Words.{part, member_of, tie_of, edge_of}

two_parts : (a n : ℕ) → n < part → ((a * part + n) / part ≡ a) × ((a * part + n) % part ≡ n)
two_parts a n h = (omega arith, omega arith)

pub member_word : (A n : ℕ) → n < part → member_of (A * part + n) ≡ record { class = A; node = n }
member_word A n h = ap₂ (λ (a m : ℕ). record { class = a; node = m }) (two_parts A n h).0 (two_parts A n h).1

pub tie_word_lem : (n m : ℕ) → m < part → tie_of (n * part + m) ≡ record { left = n; right = m }
tie_word_lem n m h = ap₂ (λ (a b : ℕ). record { left = a; right = b }) (two_parts n m h).0 (two_parts n m h).1

pub edge_word : (P n m : ℕ) → n < part → m < part → edge_of ((P * part + n) * part + m) ≡ record { attribute = P; origin = n; target = m }
edge_word P n m h k =
    let e = two_parts (P * part + n) m k in
    ap₂ (λ (a t : ℕ). record { attribute = a / part; origin = a % part; target = t }) e.0 e.1
    ∙ ap₂ (λ (a o : ℕ). record { attribute = a; origin = o; target = m }) (two_parts P n h).0 (two_parts P n h).1
