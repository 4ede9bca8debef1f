-- The whole query is the concept that ends at its last token, and the list starts empty (AskedLaws).
use mathlib.Core.Path.{refl}
use Rattle.asked.proofs.AskedLaws.{place_last, concept_last, asked_last}
use Rattle.asked.proofs.entry.asked.Goals as goal

pub concept-requires : goal.concept-requires
concept-requires c = record { place = place_last c.args.schema.now c.args.query.now c.requires.accepted_schema c.requires.accepted_concept c.tokens.ensures.value c.word-start.ensures.value _ refl refl; has_concept = concept_last c.args.schema.now c.args.query.now c.requires.accepted_schema c.requires.accepted_concept c.tokens.ensures.value c.word-start.ensures.value }

pub returns : goal.returns
returns c =
    asked_last c.args.schema.now c.args.query.now c.requires.accepted_schema c.requires.accepted_concept c.tokens.ensures.value c.word-start.ensures.value refl c.concept.ensures
