-- What a fold over the numbers below n asks of its closure: that it may be called at each of them, if no call changes it.
use Rattle.std.proofs.Common.{ℕ, ◌<◌, ◌≡◌, refl, sym, subst, List, length, Some, arith}
use native.Mathlib.Nat.{sub-zero}
use denote.Param.Members.{Mut}
use Rattle.std.specs.declared.ops.Range.{Range}
use Rattle.std.specs.Fn.{Called, Takes}
use Rattle.std.specs.Iterator.{Yields, CallableInFold}
use Rattle.std.proofs.iter.Yields.{nat_range_steps}
use Rattle.std.proofs.lemmas.Iterator.{YieldsList-from_range}
use Rattle.std.proofs.lemmas.Iterator.Consumers.{YieldsList-turn}
use Rattle.std.proofs.lemmas.List.FromFn.{length-range_with_len, get_or-range_with_len}
use Rattle.std.proofs.lemmas.Fn.{serves_by}

-- what comes of the range stands in it
turn_below : (n : ℕ) (xs : List ℕ) (s t : Range ℕ) (i : ℕ) → Yields nat_range_steps (record { start = 0; end = n }) xs s → nat_range_steps s (Some i) t → i < n
turn_below n xs s t i y m =
    let e = YieldsList-turn (YieldsList-from_range 0 n n refl (sub-zero n)) xs s y (Some i) t i refl m in
    omega (arith, e.0, e.1, length-range_with_len 0 n, get_or-range_with_len 0 n (length xs) i)

pub callable_in_fold : {F X : Type 0} {g : Mut F (X × (ℕ × Unit {0})) X} {n : ℕ} {f : F} {start : X}
    → ((x : X) (i : ℕ) (y : X) (q : F) → Called g f (x, (i, tt)) y q → q ≡ f) → ((x : X) (i : ℕ) → i < n → Takes g f (x, (i, tt)))
    → CallableInFold nat_range_steps g (record { start = 0; end = n }) f start
callable_in_fold {g = g} {n = n} {f = f} {start = start} same takes =
    serves_by _ (λ _ p. p.0 ≡ f) (λ xs p i q h k. same p.1 i q.1 q.0 (subst (λ v. Called g v (p.1, (i, tt)) q.1 q.0) h k)) nat_range_steps _ _ (f, start) refl
    (λ xs s p i t y m h. subst (λ v. Takes g v (p.1, (i, tt))) (sym h) (takes p.1 i (turn_below n xs s t i y m)))
