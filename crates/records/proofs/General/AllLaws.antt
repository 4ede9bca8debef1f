-- What holds of each entry of a list, and what is an entry.
use Prim.Native.Nat.{ℕ, zero, suc, ◌<◌}
use native.Mathlib.Omega.{arith}
use mathlib.Core.List.{List, [], ◌∷◌, ◌++◌, map}
use mathlib.Core.Logic.{◌⊎◌, inl, inr, ⊎_elim}
use mathlib.Core.Path.{◌≡◌, refl, ap, subst}
use lib.ListN.{length, get_or}

module _ {A : Type 0} where
  abbrev pub All : (A → Type 0) → List A → Type 0
  All X [] = Unit {0}
  All X (x ∷ xs) = X x × All X xs

  pub all_append : (X : A → Type 0) (xs ys : List A) → All X xs → All X ys → All X (xs ++ ys)
  all_append X [] ys h k = k
  all_append X (x ∷ xs) ys h k = (h.0, all_append X xs ys h.1 k)

  pub all_split : (X : A → Type 0) (xs ys : List A) → All X (xs ++ ys) → All X xs × All X ys
  all_split X [] ys h = (tt, h)
  all_split X (x ∷ xs) ys h = let k = all_split X xs ys h.1 in ((h.0, k.0), k.1)

  pub all_zip : {X Y Z : A → Type 0} → ((x : A) → X x → Y x → Z x) → (xs : List A) → All X xs → All Y xs → All Z xs
  all_zip f [] h k = tt
  all_zip f (x ∷ xs) h k = (f x h.0 k.0, all_zip f xs h.1 k.1)

  pub all_map : {X Y : A → Type 0} → ((x : A) → X x → Y x) → (xs : List A) → All X xs → All Y xs
  all_map f [] h = tt
  all_map f (x ∷ xs) h = (f x h.0, all_map f xs h.1)

  abbrev pub Mem : A → List A → Type 0
  Mem a [] = ⊥
  Mem a (x ∷ xs) = (x ≡ a) ⊎ Mem a xs

  pub all_at : (X : A → Type 0) (a : A) (xs : List A) → All X xs → Mem a xs → X a
  all_at X a [] h m = absurd m
  all_at X a (x ∷ xs) h (inl e) = subst X e h.0
  all_at X a (x ∷ xs) h (inr m) = all_at X a xs h.1 m

  pub all_of : (X : A → Type 0) (xs : List A) → ((a : A) → Mem a xs → X a) → All X xs
  all_of X [] h = tt
  all_of X (x ∷ xs) h = (h x (inl refl), all_of X xs (λ a m. h a (inr m)))

  -- entries of a list in two parts
  pub mem_left : (a : A) (xs ys : List A) → Mem a xs → Mem a (xs ++ ys)
  mem_left a [] ys m = absurd m
  mem_left a (x ∷ xs) ys (inl e) = inl e
  mem_left a (x ∷ xs) ys (inr m) = inr (mem_left a xs ys m)

  pub mem_right : (a : A) (xs ys : List A) → Mem a ys → Mem a (xs ++ ys)
  mem_right a [] ys m = m
  mem_right a (x ∷ xs) ys m = inr (mem_right a xs ys m)

  pub mem_split : (a : A) (xs ys : List A) → Mem a (xs ++ ys) → Mem a xs ⊎ Mem a ys
  mem_split a [] ys m = inr m
  mem_split a (x ∷ xs) ys (inl e) = inl (inl e)
  mem_split a (x ∷ xs) ys (inr m) = ⊎_elim (λ k. inl (inr k)) inr (mem_split a xs ys m)

pub all_mapped : {A B : Type 0} (X : B → Type 0) (f : A → B) (xs : List A) → All (λ a. X (f a)) xs → All X (map f xs)
all_mapped X f [] h = tt
all_mapped X f (x ∷ xs) h = (h.0, all_mapped X f xs h.1)

pub all_unmapped : {A B : Type 0} (X : B → Type 0) (f : A → B) (xs : List A) → All X (map f xs) → All (λ a. X (f a)) xs
all_unmapped X f [] h = tt
all_unmapped X f (x ∷ xs) h = (h.0, all_unmapped X f xs h.1)

-- by its place
pub all_get_d : (X : ℕ → Type 0) (l : List ℕ) → All X l → (i : ℕ) → i < length l → X (get_or l i 0)
all_get_d X [] h i k = absurd (omega arith)
all_get_d X (x ∷ l) h zero k = h.0
all_get_d X (x ∷ l) h (suc i) k = all_get_d X l h.1 i (omega arith)

-- entries of a mapped list
pub mem_mapped : {A B : Type 0} (f : A → B) (a : A) (xs : List A) → Mem a xs → Mem (f a) (map f xs)
mem_mapped f a [] m = absurd m
mem_mapped f a (x ∷ xs) (inl e) = inl (ap f e)
mem_mapped f a (x ∷ xs) (inr m) = inr (mem_mapped f a xs m)

pub mem_unmapped : {A B : Type 0} (f : A → B) (b : B) (xs : List A) → Mem b (map f xs) → (a : A) × Mem a xs × (f a ≡ b)
mem_unmapped f b [] m = absurd m
mem_unmapped f b (x ∷ xs) (inl e) = (x, inl refl, e)
mem_unmapped f b (x ∷ xs) (inr m) = let k = mem_unmapped f b xs m in (k.0, inr k.1, k.2)
