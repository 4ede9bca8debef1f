-- Document 01, "Records": the concept that a record stands for, over a pile of concepts and paths in postfix order.
use Rattle.std.specs.Prelude.{ℕ, zero, suc, List, [], ◌∷◌, cond, eqb}
use Rattle.std.proofs.Math.Option.{Option, none, some}
use Rattle.records.specs.declared.token.Token.{Token}
use Rattle.records.specs.declared.token.Token.TheVariants.{Class, Everything, Constant, Both, Empty, Forward, Backward, Reached, Common, Mark}
use Rattle.records.specs.Concept.{forward, backward, Concept, class, everything, constant, both, reached, common, mark, Path, empty, step}
use Rattle.records.specs.Layout.{concept_layout, entries, left_at, right_at}

-- A token's sort is its left word, its argument the right word. (Another sort is refused.)
unfoldable pub token_of : ℕ → ℕ → Token
token_of sort argument =
    cond (eqb sort 1) (Class argument)
    (cond (eqb sort 2) Everything
    (cond (eqb sort 3) (Constant argument)
    (cond (eqb sort 4) Both
    (cond (eqb sort 5) Empty
    (cond (eqb sort 6) (Forward argument)
    (cond (eqb sort 7) (Backward argument)
    (cond (eqb sort 8) Reached
    (cond (eqb sort 9) Common
    (Mark argument)))))))))

unfoldable pub token_at : List ℕ → ℕ → Token
token_at w i = token_of (left_at concept_layout w i) (right_at concept_layout w i)

pub data Item : Type 0 where
  concept : Concept → Item
  path : Path → Item

-- the items, the top first; none where a token took what is not there or not of that sort
abbrev pub Pile : Type 0
Pile = Option (List Item)

-- takes a concept from the top
abbrev pub take_concept : List Item → (Concept → List Item → Pile) → Pile
take_concept [] rest = none
take_concept (concept C ∷ s) rest = rest C s
take_concept (path p ∷ s) rest = none

-- takes a path from the top
abbrev pub take_path : List Item → (Path → List Item → Pile) → Pile
take_path [] rest = none
take_path (concept C ∷ s) rest = none
take_path (path p ∷ s) rest = rest p s

-- what a token takes and puts
abbrev pub push : Token → List Item → Pile
push (Class A) s = some (concept (class A) ∷ s)
push Everything s = some (concept everything ∷ s)
push (Constant a) s = some (concept (constant a) ∷ s)
push Both s = take_concept s λ D s. take_concept s λ C s. some (concept (both C D) ∷ s)
push Empty s = some (path empty ∷ s)
push (Forward P) s = take_concept s λ C s. take_path s λ p s. some (path (step p forward P C) ∷ s)
push (Backward P) s = take_concept s λ C s. take_path s λ p s. some (path (step p backward P C) ∷ s)
push Reached s = take_path s λ p s. some (concept (reached p) ∷ s)
push Common s = take_path s λ q s. take_path s λ p s. some (concept (common p q) ∷ s)
push (Mark k) s = some (concept (mark k) ∷ s)

abbrev pub after : Token → Pile → Pile
after t none = none
after t (some s) = push t s

-- the pile after the first e tokens
unfoldable pub pile_after : List ℕ → ℕ → Pile
pile_after w zero = some []
pile_after w (suc e) = after (token_at w e) (pile_after w e)

-- the concept on top (any, where there is none)
abbrev pub top_concept : Pile → Concept
top_concept none = everything
top_concept (some []) = everything
top_concept (some (concept C ∷ s)) = C
top_concept (some (path p ∷ s)) = everything

-- the one item at the end
unfoldable pub concept_of : List ℕ → Concept
concept_of w = top_concept (pile_after w (entries concept_layout w))
