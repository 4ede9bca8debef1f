-- The loop that writes a flag for each number: what stands before the present place is written, the rest is as it was.
use Prim.Native.Nat.{ℕ, zero, suc, ◌+◌, ◌<◌}
use mathlib.Core.List.{List, ◌++◌, append_assoc}
use mathlib.Core.Bool.{Bool, true, false, cond}
use mathlib.Core.Path.{◌≡◌, refl, ◌∙◌}
use native.Mathlib.Numerals.{add-one}
use native.Mathlib.Omega.{arith}
use lib.ListN.{length, drop, set, length-append}
use lib.Seq.{drop-cons, set_at}
use mir.Val.{bool_byte}
use Rattle.judge.specs.Select.{flags}

module _ (f : ℕ → Bool) where
  pub flags_length : (n : ℕ) → length (flags f n) ≡ n
  unfolding flags
  flags_length zero = refl
  flags_length (suc n) = length-append (flags f n) _ ∙ omega (arith, flags_length n)

  pub flags_none : (l : List ℕ) → l ≡ flags f 0 ++ drop 0 l
  unfolding flags
  flags_none l = refl

  flag_byte : (b : Bool) → bool_byte b ≡ cond b 1 0
  flag_byte true = refl
  flag_byte false = refl

  pub flags_more : (l now : List ℕ) (i : ℕ) → now ≡ flags f i ++ drop i l → i < length l → (b : Bool) → b ≡ f i → set now i (bool_byte b) ≡ flags f (i + 1) ++ drop (i + 1) l
  unfolding flags
  flags_more l now i e h b q =
      rw (e, drop-cons l i 0 h, flag_byte b, q, add-one, append_assoc)
      (set_at (flags f i) _ (drop (suc i) l) (cond (f i) 1 0) i (flags_length i))
