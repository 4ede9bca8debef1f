-- The scan to the left: a token passed is one item less to want, and its operands more.
use Prim.Native.Nat.{ℕ, zero, suc, ◌+◌, ◌-◌, ◌≤◌, ◌<◌}
use native.Mathlib.Omega.{arith}
use mathlib.Core.Bool.{So, false, ◌&&◌}
use mathlib.Core.List.{List}
use mathlib.Core.Path.{◌≡◌, refl, sym, ap, ap₂, ◌∙◌}
use lib.Dec.{ltb}
use borrow.Author.Tests.{ltb-true, lt-ltb}
use Rattle.records.specs.declared.token.Token.{Token}
use Rattle.records.specs.declared.token.Token.TheVariants.{Class, Everything, Constant, Both, Empty, Forward, Backward, Reached, Common, Mark}
use Rattle.records.specs.ConceptRecord.{token_at}
use Rattle.records.specs.Finite.{set_of}
use Rattle.records.specs.Layout.{max_marks}
use Rattle.records.specs.Marks.{has_mark}
use Rattle.records.specs.Helpers.Loops.{upto}
use Rattle.records.proofs.General.BoolLaws.{and_map, and_both, not_both}
use Rattle.records.proofs.MarkLaws.{marks_before, marks_none, marks_more}
use lib.Bits.{bit_or}
use Rattle.records.specs.Helpers.Reading.{takes, start_of}

pub takes_few : (t : Token) → takes t ≤ 2
unfolding takes
takes_few (Class A) = omega arith
takes_few Everything = omega arith
takes_few (Constant a) = omega arith
takes_few Both = omega arith
takes_few Empty = omega arith
takes_few (Forward P) = omega arith
takes_few (Backward P) = omega arith
takes_few Reached = omega arith
takes_few Common = omega arith
takes_few (Mark k) = omega arith

-- the loop's test: tokens are left, and items are wanted
pub goes_on : (at wanted : ℕ) → So (ltb 0 at && ltb 0 wanted) → (0 < at) × (0 < wanted)
goes_on at wanted = and_map (ltb-true 0 at) (ltb-true 0 wanted)

module _ (w : List ℕ) where
  -- the token before `at` is passed
  pub start_more : (at wanted k : ℕ) → (0 < at) × (0 < wanted) → k ≡ takes (token_at w (at - 1))
      → start_of w (at - 1) (k + wanted - 1) ≡ start_of w at wanted
  unfolding start_of
  start_more at wanted k p e =
      let q : at ≡ suc (at - 1) = omega (arith, p.0) in
      let r : wanted ≡ suc (wanted - 1) = omega (arith, p.1) in
      let h : k + wanted - 1 ≡ takes (token_at w (at - 1)) + (wanted - 1) = omega (arith, e, p.1) in
      ap (start_of w (at - 1)) h ∙ sym (ap₂ (start_of w) q r)

  pub start_done : (at wanted : ℕ) → ltb 0 at && ltb 0 wanted ≡ false → start_of w at wanted ≡ at
  unfolding start_of
  start_done zero wanted h = refl
  start_done (suc at) zero h = refl
  start_done (suc at) (suc wanted) h = absurd (not_both _ (and_both _ _ (lt-ltb 0 (suc at) (omega arith)) (lt-ltb 0 (suc wanted) (omega arith))) h)

  -- the marks of the tokens passed
  pub marks_upto : (n : ℕ) → upto (λ i c. bit_or c (set_of max_marks λ k. has_mark k (token_at w i))) n 0 ≡ marks_before w n
  unfolding upto
  marks_upto zero = sym (marks_none w)
  marks_upto (suc n) = marks_more w n (marks_upto n)
