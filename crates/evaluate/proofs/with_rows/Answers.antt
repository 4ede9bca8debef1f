-- The whole concept is the item that ends after the last token.
use Rattle.std.proofs.lemmas.List.{length-replicate}
use Rattle.evaluate.proofs.PlaceLaws.{place_last, concept_last, selection_last}
use Rattle.evaluate.proofs.with_rows.Goals as goal

pub concept-requires-clause-place : goal.concept-requires-clause-place
concept-requires-clause-place g c =
    place_last c.requires.landable c.tokens.ensures.value c.requires.relations (length-replicate g.row.WORDS 0)

pub concept-requires-clause-has_concept : goal.concept-requires-clause-has_concept
concept-requires-clause-has_concept g c = concept_last c.requires.landable c.tokens.ensures.value

pub returns : goal.returns
returns g c = selection_last c.requires.landable c.tokens.ensures.value c.concept.ensures
