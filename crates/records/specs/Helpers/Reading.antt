-- A concept's tokens, read from the right: the item that ends at a place, where its tokens start, and the number of a step.
use Rattle.std.specs.Prelude.{ℕ, zero, suc, ◌+◌, List, [], ◌∷◌, ◌≡◌}
use Rattle.std.proofs.Math.Option.{none, some}
use Rattle.records.specs.declared.token.Token.{Token}
use Rattle.records.specs.declared.token.Token.TheVariants.{Class, Everything, Constant, Both, Empty, Forward, Backward, Reached, Common, Mark}
use Rattle.records.specs.Finite.{count}
use Rattle.records.specs.Concept.{Direction, forward, backward, Concept, Path, empty}
use Rattle.records.specs.ConceptRecord.{Item, concept, path, Pile, token_at, pile_after, top_concept}
use Rattle.records.specs.ConceptRefusal.{step_at}

-- the path on top of the pile (any, where there is none)
abbrev pub top_path : Pile → Path
top_path none = empty
top_path (some []) = empty
top_path (some (concept C ∷ s)) = empty
top_path (some (path p ∷ s)) = p

-- the concept, or the path, that ends at token e
abbrev pub concept_at : List ℕ → ℕ → Concept
concept_at w e = top_concept (pile_after w e)

abbrev pub path_at : List ℕ → ℕ → Path
path_at w e = top_path (pile_after w e)

-- .. and there is one
unfoldable pub HasConcept : List ℕ → ℕ → Type 0
HasConcept w e = (s : List Item) × (pile_after w e ≡ some (concept (concept_at w e) ∷ s))

unfoldable pub HasPath : List ℕ → ℕ → Type 0
HasPath w e = (s : List Item) × (pile_after w e ≡ some (path (path_at w e) ∷ s))

-- how many items a token takes from the pile
unfoldable pub takes : Token → ℕ
takes (Class A) = 0
takes Everything = 0
takes (Constant a) = 0
takes Both = 2
takes Empty = 0
takes (Forward P) = 2
takes (Backward P) = 2
takes Reached = 1
takes Common = 2
takes (Mark k) = 0

-- where the tokens of the k topmost items after e tokens start: a scan to the left that counts the items still wanted
unfoldable pub start_of : List ℕ → ℕ → ℕ → ℕ
start_of w zero k = zero
start_of w (suc e) zero = suc e
start_of w (suc e) (suc k) = start_of w e (takes (token_at w e) + k)

-- the token of a step
abbrev pub step_token : Direction → ℕ → Token
step_token forward P = Forward P
step_token backward P = Backward P

-- the number of a step whose token stands at e, counted from 0: how many step tokens stand before
abbrev pub step_number : List ℕ → ℕ → ℕ
step_number w e = count e (step_at w)
