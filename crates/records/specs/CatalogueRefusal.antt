-- Document 02, note 3: the refusals of a catalogue: of its layout, then of its views one after the other.
use Rattle.std.specs.Prelude.{ℕ, zero, suc, List, [], ◌∷◌, ◌++◌, Bool, cond, not, ◌||◌, ◌≡◌, eqb, length, Option, Some, None, Result, Ok, Err}
use Rattle.records.specs.declared.schema.Signature.{Signature}
use Rattle.records.specs.declared.refusal.Refusal.{Refusal}
use Rattle.records.specs.declared.refusal.Refusal.TheVariants as refusal
use Rattle.records.specs.Layout.{view_steps, no_marks, max_views}
use Rattle.records.specs.SchemaRecord.{signature_of}
use Rattle.records.specs.ConceptRefusal.{concept_answer}
use Rattle.records.specs.Marks.{allowing}
use Rattle.records.specs.CatalogueRecord.{views, start_at, view_at}
use Rattle.records.specs.Refusal.{refusal_in}
use Rattle.records.specs.Shape.{outside}
use Rattle.records.specs.Outcome.{schema_refusal, outcome}

-- 13. There is no view or more than 16, or the length is another than the count and the length words make. (Words that end before
-- the last length word are fewer than that.)
unfoldable pub refusal_13 : List ℕ → Bool
refusal_13 w = outside 1 max_views (views w) || not (eqb (length w) (start_at w (views w)))

-- the refusals of the first n views, each checked as a view: all refusals of view 0 come before those of view 1
unfoldable pub view_refusals : Signature → List ℕ → ℕ → List (Option Refusal)
view_refusals s w zero = []
view_refusals s w (suc n) = view_refusals s w n ++ (refusal_in (concept_answer view_steps (allowing no_marks s) (view_at w n)) ∷ [])

abbrev pub layout_refusal : List ℕ → Option Refusal
layout_refusal w = cond (refusal_13 w) (Some refusal.CatalogueLayout) None

-- the first refusal of a catalogue, or nothing for an accepted one
unfoldable pub catalogue_answer : Signature → List ℕ → Result (Unit {0}) Refusal
catalogue_answer s w = outcome Err (layout_refusal w ∷ view_refusals s w (views w)) (Ok tt)

-- A record is accepted if it gets none of its refusals.
abbrev pub AcceptedCatalogue : Signature → List ℕ → Type 0
AcceptedCatalogue s w = catalogue_answer s w ≡ Ok tt

-- The schema is checked before the catalogue.
abbrev pub catalogue_refusals : List ℕ → List ℕ → List (Option Refusal)
catalogue_refusals schema w = schema_refusal schema ∷ refusal_in (catalogue_answer (signature_of schema) w) ∷ []
