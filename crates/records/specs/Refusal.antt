-- Why a call is refused, and the papers' number of each reason (document 01, "Turned back"; document 02, notes 1, 3, 5 and 7).
use Rattle.std.specs.Prelude.{ℕ, Option, Some, None, Result, Ok, Err}
use Rattle.records.specs.declared.refusal.Refusal.{Refusal}
use Rattle.records.specs.declared.refusal.Refusal.TheVariants.{SchemaShape, SchemaAxiom, ConceptShape, ConceptToken, ConceptPile, ConceptSteps, StateShape, StateFact, StateOrder, StateNames, LentWords, Attribute, CatalogueLayout, SchemaLoose, StateClassFacts}

abbrev pub number : Refusal → ℕ
number SchemaShape = 1
number SchemaAxiom = 2
number ConceptShape = 3
number ConceptToken = 4
number ConceptPile = 5
number ConceptSteps = 6
number StateShape = 7
number StateFact = 8
number StateOrder = 9
number StateNames = 10
number LentWords = 11
number Attribute = 12
number CatalogueLayout = 13
number SchemaLoose = 14
number StateClassFacts = 15

-- the refusal that an answer is, if it is one
abbrev pub refusal_in : {A : Type 0} → Result A Refusal → Option Refusal
refusal_in (Ok x) = None
refusal_in (Err r) = Some r

-- what an answer returns to C: the number of its refusal, or 0 where it is none
abbrev pub returned : {A : Type 0} → Result A Refusal → ℕ
returned (Ok x) = 0
returned (Err r) = number r
