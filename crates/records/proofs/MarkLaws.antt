-- Which mark a token is, which marks a concept uses, and that it is accepted wherever these are allowed.
use Prim.Native.Nat.{ℕ, suc, ◌<◌}
use mathlib.Core.Bool.{false, So, false≢true}
use mathlib.Core.List.{List}
use mathlib.Core.Logic.{◌↔◌}
use mathlib.Core.Path.{◌≡◌, refl, sym, ap}
use borrow.Author.Tests.{eqb-true, eq-eqb, ltb-true, not-false}
use lib.Bits.{bit_or}
use lib.Dec.{ltb}
use Rattle.records.specs.declared.token.Token.{Token}
use Rattle.records.specs.declared.token.Token.TheVariants.{Class, Everything, Constant, Both, Empty, Forward, Backward, Reached, Common, Mark}
use Rattle.records.specs.Finite.{any, bit, set_of}
use Rattle.records.specs.declared.schema.Signature.{Signature}
use Rattle.records.specs.Layout.{concept_layout, entries, left_at, right_at, max_marks, no_marks}
use Rattle.records.specs.SchemaRecord.{signature_of}
use Rattle.records.specs.ConceptRecord.{token_at}
use Rattle.records.specs.Shape.{outside}
use Rattle.records.specs.ConceptRefusal.{suits, faulty_token, refusal_4, concept_answer, AcceptedConcept}
use Rattle.records.specs.Marks.{allowing, allows, has_mark, UsesMark, mark_used, used_marks}
use Rattle.records.proofs.General.BitLaws.{word_zero}
use Rattle.records.proofs.General.BoolLaws.{false_of, not_both, and_left, and_right, and_both, or_false_left, or_false_right}
use Rattle.records.proofs.General.FiniteLaws.{any_iff, any_of_lem, any_none, none_any}
use Rattle.records.proofs.General.SetLaws.{set_iff, set_none, set_bit, set_gathered}
use Rattle.records.proofs.AcceptedLaws.{passes_3, passes_4, passes_5, passes_6}

mark_iff : (k : ℕ) (t : Token) → So (has_mark k t) ↔ (t ≡ Mark k)
mark_iff k (Class A) = (λ e. absurd (false≢true e), λ q. cc)
mark_iff k Everything = (λ e. absurd (false≢true e), λ q. cc)
mark_iff k (Constant a) = (λ e. absurd (false≢true e), λ q. cc)
mark_iff k Both = (λ e. absurd (false≢true e), λ q. cc)
mark_iff k Empty = (λ e. absurd (false≢true e), λ q. cc)
mark_iff k (Forward P) = (λ e. absurd (false≢true e), λ q. cc)
mark_iff k (Backward P) = (λ e. absurd (false≢true e), λ q. cc)
mark_iff k Reached = (λ e. absurd (false≢true e), λ q. cc)
mark_iff k Common = (λ e. absurd (false≢true e), λ q. cc)
mark_iff k (Mark j) = (λ e. ap Mark (sym (eqb-true k j e)), λ q. eq-eqb k j cc)

-- a token that is no mark has none
pub no_mark : (t : Token) → ((x : ℕ) → t ≡ Mark x → ⊥) → (k : ℕ) → has_mark k t ≡ false
no_mark t h k = false_of (has_mark k t) λ e. h k ((mark_iff k t).0 e)

-- the marks of the first i tokens, as they are gathered
abbrev pub marks_before : List ℕ → ℕ → ℕ
marks_before w i = set_of max_marks (λ k. any i λ j. has_mark k (token_at w j))

pub marks_none : (w : List ℕ) → marks_before w 0 ≡ 0
unfolding any
marks_none w = set_none (λ k. false) max_marks (λ k l. refl)

pub marks_more : (w : List ℕ) (i : ℕ) {c : ℕ} → c ≡ marks_before w i → bit_or c (set_of max_marks λ k. has_mark k (token_at w i)) ≡ marks_before w (suc i)
marks_more w i e = set_gathered (λ k j. has_mark k (token_at w j)) max_marks i e

-- what the set says, for marks that there are
pub used_iff : (w : List ℕ) → ((k : ℕ) → UsesMark w k → k < max_marks) → (k : ℕ) → So (bit (used_marks w) k) ↔ UsesMark w k
unfolding used_marks mark_used
used_iff w below = set_iff (mark_used w) (UsesMark w) max_marks (λ k. any_iff λ i. mark_iff k (token_at w i)) below

-- With some marks or with others: accepted, if these allow each mark of the concept that those do.
module _ (limit : ℕ) (s : Signature) (m n : ℕ) (w : List ℕ)
    (more : (i k : ℕ) → i < entries concept_layout w → token_at w i ≡ Mark k → So (allows (allowing m s) k) → So (allows (allowing n s) k)) where
  suits_more : (i x : ℕ) → i < entries concept_layout w → (t : Token) → token_at w i ≡ t → So (suits (allowing m s) t x) → So (suits (allowing n s) t x)
  suits_more i x l (Class A) q h = h
  suits_more i x l Everything q h = h
  suits_more i x l (Constant a) q h = h
  suits_more i x l Both q h = h
  suits_more i x l Empty q h = h
  suits_more i x l (Forward P) q h = h
  suits_more i x l (Backward P) q h = h
  suits_more i x l Reached q h = h
  suits_more i x l Common q h = h
  suits_more i x l (Mark k) q h = more i k l q h

  tokens_more : refusal_4 (allowing m s) w ≡ false → refusal_4 (allowing n s) w ≡ false
  unfolding refusal_4 faulty_token
  tokens_more e =
      none_any (faulty_token (allowing n s) w) (entries concept_layout w) λ i l.
      let z = any_none (faulty_token (allowing m s) w) (entries concept_layout w) e i l in
      rw (
        or_false_left (outside 1 10 (left_at concept_layout w i)) _ z,
        suits_more i (right_at concept_layout w i) l (token_at w i) refl (not-false _ (or_false_right (outside 1 10 (left_at concept_layout w i)) _ z)),
      )

  pub accepted_more : AcceptedConcept limit (allowing m s) w → AcceptedConcept limit (allowing n s) w
  unfolding concept_answer
  accepted_more ok =
      rw (passes_3 limit (allowing m s) w ok, tokens_more (passes_4 limit (allowing m s) w ok), passes_5 limit (allowing m s) w ok, passes_6 limit (allowing m s) w ok)

-- .. so with those that it uses, and one without marks with any
pub accepted_used : (limit : ℕ) (s : Signature) (m : ℕ) (w : List ℕ) → AcceptedConcept limit (allowing m s) w → AcceptedConcept limit (allowing (used_marks w) s) w
unfolding used_marks mark_used
accepted_used limit s m w =
    accepted_more limit s m (used_marks w) w λ i k l q h.
    let below = and_left _ _ h in
    and_both _ _ below
    (rw (set_bit (mark_used w) max_marks k (ltb-true k max_marks below))
    (any_of_lem (λ j. has_mark k (token_at w j)) (entries concept_layout w) i l ((mark_iff k (token_at w i)).1 q)))

pub accepted_allowing : (limit : ℕ) (schema w : List ℕ) (n : ℕ) → AcceptedConcept limit (signature_of schema) w
    → AcceptedConcept limit (allowing n (signature_of schema)) w
unfolding signature_of
accepted_allowing limit schema w n =
    accepted_more limit (signature_of schema) no_marks n w λ i k l q h. absurd (not_both _ (and_right (ltb k max_marks) _ h) (word_zero k))
