-- What an axiom does not ask about cannot break it.
use Prim.Native.Nat.{ℕ, ◌+◌, ◌^◌, ◌≤◌, ◌<◌}
use mathlib.Core.Bool.{Bool, true, false, So, ◌&&◌}
use mathlib.Core.List.{List}
use mathlib.Core.Path.{◌≡◌, refl, ap, ◌∙◌}
use native.Mathlib.Omega.{arith}
use borrow.Author.Tests.{eq-eqb, eqb-true}
use Rattle.std.specs.declared.ops.Range.{Range}
use Rattle.records.specs.declared.schema.Axiom.{Axiom}
use Rattle.records.specs.declared.schema.Axiom.TheVariants.{Subclass, Typing, Necessary, Single, Relates}
use Rattle.records.specs.Finite.{any}
use Rattle.records.specs.Layout.{state_layout, entries, attribute_kinds}
use Rattle.records.specs.StateRecord.{kind_at}
use Rattle.records.proofs.General.BoolLaws.{and_left}
use Rattle.records.proofs.General.FiniteLaws.{none_any}
use Rattle.index.proofs.KindLaws.{kind_within, kind_before, kind_after}
use Rattle.legality.specs.Breaks.{is_pair, object_breaks, misplaced, pair_breaks}
use Rattle.legality.specs.Asked.{objects_asked, KindRow, PairsAsked}

-- Objects.

pub objects_asked_few : (x : Axiom) (n d : ℕ) → d < objects_asked x n → d < n
objects_asked_few (Subclass A B) n d l = l
objects_asked_few (Typing A P B) n d l = absurd (omega arith)
objects_asked_few (Necessary A P) n d l = l
objects_asked_few (Single A P) n d l = absurd (omega arith)
objects_asked_few (Relates P A B) n d l = absurd (omega arith)

pub objects_asked_all : (seen : List ℕ) (x : Axiom) (n : ℕ) → any (objects_asked x n) (object_breaks seen x) ≡ false → any n (object_breaks seen x) ≡ false
objects_asked_all seen (Subclass A B) n e = e
objects_asked_all seen (Typing A P B) n e = none_any _ n λ d l. refl
objects_asked_all seen (Necessary A P) n e = e
objects_asked_all seen (Single A P) n e = none_any _ n λ d l. refl
objects_asked_all seen (Relates P A B) n e = none_any _ n λ d l. refl

-- Facts.

-- A row of the numbers below n that settles a test: none before the row passes, and where none of the row does, none at all.
pub record Settled (test here : ℕ → Bool) (n : ℕ) (row : Range ℕ) : Type 0 where
  pub before : any row.start test ≡ false
  pub after : any row.end test ≡ false → any n test ≡ false
  pub within : row.end ≤ n
  pub few : row.end < 2 ^ 16
  pub inside : (f : ℕ) → row.start ≤ f → f < row.end → test f ≡ here f

none_settled : (test here : ℕ → Bool) (n : ℕ) {row : Range ℕ} → (row.start ≡ 0) × (row.end ≡ 0) → ((f : ℕ) → test f ≡ false) → Settled test here n row
none_settled test here n {row} e none =
    record { before = none_any test row.start (λ f l. none f); after = λ _. none_any test n (λ f l. none f); within = omega (arith, e.1); few = omega (arith, e.1); inside = λ f k l. absurd (omega (arith, e.1)) }

row_settled : (w : List ℕ) (P : ℕ) {row : Range ℕ} (test here : ℕ → Bool) → KindRow w (attribute_kinds + P) row → ((f : ℕ) → test f ≡ (is_pair w P f && here f)) → Settled test here (entries state_layout w) row
row_settled w P test here z is =
    record {
      before = kind_before w test of z.first;
      after = λ e. kind_after w test of z.last (omega arith) z.last.within ∙ e;
      within = z.last.within;
      few = z.few;
      inside = λ f k l. is f ∙ ap (λ (b : Bool). b && here f) (eq-eqb (kind_at w f) (attribute_kinds + P) (kind_within w z.first z.last f k l));
    }
  where
    of : (f : ℕ) → So (test f) → kind_at w f ≡ attribute_kinds + P
    of f t = eqb-true (kind_at w f) (attribute_kinds + P) (and_left _ _ (rw is at t))

and_again : (a b c : Bool) → (a && b && c) ≡ (a && (b && c))
and_again true b c = refl
and_again false b c = refl

-- a fact that breaks an axiom is of the kind that the axiom asks about
pub pairs_settled : (w seen : List ℕ) (x : Axiom) {row : Range ℕ} → PairsAsked w x row → Settled (pair_breaks w seen x) (misplaced w seen x) (entries state_layout w) row
pairs_settled w seen (Subclass A B) z = none_settled _ _ _ z (λ f. refl)
pairs_settled w seen (Typing A P B) z = row_settled w P _ _ z λ f. and_again (is_pair w P f) _ _
pairs_settled w seen (Necessary A P) z = none_settled _ _ _ z (λ f. refl)
pairs_settled w seen (Single A P) z = row_settled w P _ _ z λ f. and_again (is_pair w P f) _ _
pairs_settled w seen (Relates P A B) z = row_settled w P _ _ z λ f. refl
