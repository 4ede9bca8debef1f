-- Document 01, "Turned back": the refusals of a concept, each a test named by its number, and the answer of its check: the first
-- that applies, or what an accepted concept names.
use Rattle.std.specs.Prelude.{ℕ, List, [], ◌∷◌, Bool, true, false, cond, not, ◌||◌, ◌≡◌, eqb, ltb, Result, Ok, Err}
use Rattle.std.proofs.Math.Option.{none, some}
use Rattle.records.specs.declared.schema.Signature.{Signature}
use Rattle.records.specs.declared.token.Token.{Token}
use Rattle.records.specs.declared.token.Token.TheVariants.{Class, Everything, Constant, Both, Empty, Forward, Backward, Reached, Common, Mark}
use Rattle.records.specs.declared.named.Named.{Named}
use Rattle.records.specs.declared.refusal.Refusal.{Refusal}
use Rattle.records.specs.declared.refusal.Refusal.TheVariants as refusal
use Rattle.records.specs.Finite.{any, count}
use Rattle.records.specs.Layout.{concept_layout, size_at, entries, left_at, right_at, max_tokens}
use Rattle.records.specs.ConceptRecord.{token_at, Item, Pile, pile_after}
use Rattle.records.specs.Named.{named_in}
use Rattle.records.specs.Marks.{allows}
use Rattle.records.specs.Shape.{misshapen, outside}

-- 3. A concept has fewer words than its sizes, n of 0 or above its limit, or a length other than its entries make.
unfoldable pub refusal_3 : List ℕ → Bool
refusal_3 w = outside 1 max_tokens (entries concept_layout w) || misshapen concept_layout w

-- the token's argument is declared, or 0 where it has none
abbrev pub suits : Signature → Token → ℕ → Bool
suits s (Class A) x = ltb A s.classes
suits s Everything x = eqb x 0
suits s (Constant a) x = ltb a s.constants
suits s Both x = eqb x 0
suits s Empty x = eqb x 0
suits s (Forward P) x = ltb P s.attributes
suits s (Backward P) x = ltb P s.attributes
suits s Reached x = eqb x 0
suits s Common x = eqb x 0
suits s (Mark k) x = allows s k

unfoldable pub faulty_token : Signature → List ℕ → ℕ → Bool
faulty_token s w i = outside 1 10 (left_at concept_layout w i) || not (suits s (token_at w i) (right_at concept_layout w i))

-- 4. A token has a sort outside 1 to 10, an undeclared argument, a mark that may not stand there, or an argument other than 0
-- where it has none.
unfoldable pub refusal_4 : Signature → List ℕ → Bool
refusal_4 s w = any (entries concept_layout w) (faulty_token s w)

-- exactly one concept
abbrev pub is_concept : Pile → Bool
is_concept none = false
is_concept (some []) = false
is_concept (some (Item.concept C ∷ [])) = true
is_concept (some (Item.concept C ∷ x ∷ s)) = false
is_concept (some (Item.path p ∷ s)) = false

-- 5. The tokens take from the pile what is not there or not of that sort, or do not end with exactly one concept.
unfoldable pub refusal_5 : List ℕ → Bool
refusal_5 w = not (is_concept (pile_after w (entries concept_layout w)))

abbrev pub is_step : Token → Bool
is_step (Class A) = false
is_step Everything = false
is_step (Constant a) = false
is_step Both = false
is_step Empty = false
is_step (Forward P) = true
is_step (Backward P) = true
is_step Reached = false
is_step Common = false
is_step (Mark k) = false

abbrev pub step_at : List ℕ → ℕ → Bool
step_at w i = is_step (token_at w i)

unfoldable pub steps : List ℕ → ℕ
steps w = count (entries concept_layout w) (step_at w)

-- 6. The count of steps differs from the second size or is above the limit.
unfoldable pub refusal_6 : ℕ → List ℕ → Bool
refusal_6 limit w = not (eqb (steps w) (size_at w 1)) || ltb limit (steps w)

unfoldable pub concept_answer : ℕ → Signature → List ℕ → Result Named Refusal
concept_answer limit s w =
    cond (refusal_3 w) (Err refusal.ConceptShape)
    (cond (refusal_4 s w) (Err refusal.ConceptToken)
    (cond (refusal_5 w) (Err refusal.ConceptPile)
    (cond (refusal_6 limit w) (Err refusal.ConceptSteps)
    (Ok (named_in w)))))

-- A record is accepted if it gets none of its refusals.
abbrev pub AcceptedConcept : ℕ → Signature → List ℕ → Type 0
AcceptedConcept limit s w = concept_answer limit s w ≡ Ok (named_in w)
