-- What a token of an evaluable concept names.
use Prim.Native.Nat.{ℕ, ◌+◌, ◌^◌, ◌≤◌, ◌<◌}
use mathlib.Core.Bool.{Bool, true, false, So, cond, false≢true}
use mathlib.Core.List.{List}
use mathlib.Core.Path.{◌≡◌, refl}
use native.Mathlib.Omega.{arith}
use native.Mathlib.Nat.{le_refl}
use borrow.Author.Tests.{ltb-true}
use lib.Dec.{eqb}
use lib.ListN.{get_or}
use Rattle.std.specs.Prelude.{Some, is_some}
use mir.Syntax.{w16}
use mir.Val.{Fits}
use Rattle.records.specs.declared.schema.Signature.{Signature}
use Rattle.records.specs.declared.token.Token.{Token}
use Rattle.records.specs.declared.token.Token.TheVariants.{Class, Everything, Constant, Both, Empty, Forward, Backward, Reached, Common, Mark}
use Rattle.records.specs.Concept.{direction_of}
use Rattle.records.specs.Layout.{concept_layout, entries, left_at, right_at}
use Rattle.records.specs.ConceptRecord.{token_of, token_at}
use Rattle.records.specs.ConceptRefusal.{is_step}
use Rattle.records.specs.Marks.{allows}
use Rattle.records.specs.Helpers.Reading.{step_token}
use Rattle.records.proofs.AcceptedLaws.{token_suits}
use Rattle.paths.specs.Evaluable.{Evaluable}
use Rattle.paths.specs.Steps.{along, step_of}

-- the number that a token names, 0 where it names none
abbrev pub named : Token → ℕ
named (Class A) = A
named Everything = 0
named (Constant a) = a
named Both = 0
named Empty = 0
named (Forward P) = P
named (Backward P) = P
named Reached = 0
named Common = 0
named (Mark k) = k

cond_named : (n : ℕ) (b : Bool) (x y : Token) → named x ≤ n → named y ≤ n → named (cond b x y) ≤ n
cond_named n true x y h l = h
cond_named n false x y h l = l

named_le : (sort n : ℕ) → named (token_of sort n) ≤ n
unfolding token_of
named_le sort n =
    cond_named n (eqb sort 1) _ _ (le_refl n)
    (cond_named n (eqb sort 2) _ _ (omega arith)
    (cond_named n (eqb sort 3) _ _ (le_refl n)
    (cond_named n (eqb sort 4) _ _ (omega arith)
    (cond_named n (eqb sort 5) _ _ (omega arith)
    (cond_named n (eqb sort 6) _ _ (le_refl n)
    (cond_named n (eqb sort 7) _ _ (le_refl n)
    (cond_named n (eqb sort 8) _ _ (omega arith)
    (cond_named n (eqb sort 9) _ _ (omega arith) (le_refl n)))))))))

-- so it is a word
pub named_small : (w : List ℕ) → ((k : ℕ) → Fits w16 (get_or w k 0)) → (i : ℕ) {t : Token} → token_at w i ≡ t → named t < 2 ^ 16
unfolding token_at right_at
named_small w fits i is =
    rw (← is)
    (omega (arith, named_le (left_at concept_layout w i) (right_at concept_layout w i), fits (concept_layout.sizes + entries concept_layout w + i)))

pub constant_declared : {s : Signature} {w v : List ℕ} → Evaluable s w v → (i : ℕ) → i < entries concept_layout w → {a : ℕ} → token_at w i ≡ Constant a → a < s.constants
constant_declared {s} {w} ok i l {a} is = ltb-true a s.constants (rw is at (token_suits s w ok.tokens i l))

pub mark_allowed : {s : Signature} {w v : List ℕ} → Evaluable s w v → (i : ℕ) → i < entries concept_layout w → {k : ℕ} → token_at w i ≡ Mark k → So (allows s k)
mark_allowed {s} {w} ok i l is = rw is at (token_suits s w ok.tokens i l)

-- a step goes along an attribute, one way or the other
pub step_along : (t : Token) → So (is_step t) → (back : Bool) × (P : ℕ) × (t ≡ step_token (direction_of back) P) × (step_of t ≡ Some (along back P))
step_along (Class A) h = absurd (false≢true h)
step_along Everything h = absurd (false≢true h)
step_along (Constant a) h = absurd (false≢true h)
step_along Both h = absurd (false≢true h)
step_along Empty h = absurd (false≢true h)
step_along (Forward P) h = (false, P, refl, refl)
step_along (Backward P) h = (true, P, refl, refl)
step_along Reached h = absurd (false≢true h)
step_along Common h = absurd (false≢true h)
step_along (Mark k) h = absurd (false≢true h)

-- a token has a step just where it is one
pub step_found : (t : Token) → is_step t ≡ is_some (step_of t)
step_found (Class A) = refl
step_found Everything = refl
step_found (Constant a) = refl
step_found Both = refl
step_found Empty = refl
step_found (Forward P) = refl
step_found (Backward P) = refl
step_found Reached = refl
step_found Common = refl
step_found (Mark k) = refl
