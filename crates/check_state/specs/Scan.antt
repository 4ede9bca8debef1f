-- What the check of a state keeps while it scans the facts, as plain functions: whether they ascend, and the constants' and marks'
-- objects. StateScanLaws of proofs/ ties them to the refusals.
use Rattle.std.specs.Prelude.{ℕ, zero, suc, ◌+◌, ◌-◌, List, Bool, true, cond, not, ◌&&◌, ◌||◌, eqb, ltb, leb, get_or, Option, Some, None, Result, Ok, Err}
use Rattle.records.specs.declared.schema.Signature.{Signature}
use Rattle.records.specs.declared.refusal.Refusal.{Refusal}
use Rattle.records.specs.declared.refusal.Refusal.TheVariants as refusal
use Rattle.records.specs.Finite.{any}
use Rattle.records.specs.State.{repeats}
use Rattle.records.specs.Layout.{max_constants, max_marks, constant_kinds, fact_kinds}
use Rattle.records.specs.Marks.{allows}
use Rattle.records.specs.StateRefusal.{ascends}

-- the last number below n passes, if there is one
unfoldable pub last_passes : (ℕ → Bool) → ℕ → Bool
last_passes f zero = true
last_passes f (suc i) = f i

-- fact i is the first, or stands after the one before it
abbrev pub follows_at : List ℕ → ℕ → Bool
follows_at w i = last_passes (ascends w) i

-- refusal 15, then 10, of a state whose facts ascend, by the two tests
abbrev pub sorted_answer : Bool → Bool → Result (Unit {0}) Refusal
sorted_answer miscounted misnamed = cond miscounted (Err refusal.StateClassFacts) (cond misnamed (Err refusal.StateNames) (Ok tt))

-- the slots of constants and marks, the marks after the constants
abbrev pub slots : ℕ
slots = max_constants + max_marks

-- the slot of the constant or mark to which a fact of this kind gives its object
abbrev pub slot_of : ℕ → Option ℕ
slot_of k = cond (leb constant_kinds k && ltb k fact_kinds) (Some (k - constant_kinds)) None

-- the object that was last seen for constant a
abbrev pub named_in : List ℕ → ℕ → ℕ
named_in named a = get_or named a 0

-- constant a has no fact or several, or clashes with an earlier one
abbrev pub misnamed_at : Signature → List ℕ → List ℕ → ℕ → Bool
misnamed_at s counts named a = not (eqb (get_or counts a 0) 1) || repeats s (named_in named) a

-- and a constant whose kind is past the last has no fact
unfoldable pub misnamed : Signature → List ℕ → List ℕ → Bool
misnamed s counts named = ltb slots s.constants || any s.constants (misnamed_at s counts named)

-- mark k is allowed, and has no fact or several
abbrev pub mismarked_at : Signature → List ℕ → ℕ → Bool
mismarked_at s counts k = allows s k && not (eqb (get_or counts (max_constants + k) 0) 1)

unfoldable pub mismarked : Signature → List ℕ → Bool
mismarked s counts = any max_marks (mismarked_at s counts)
