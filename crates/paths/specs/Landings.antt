-- What the steps of a path land on: kept as rows, each at the place of the step's token.
use Rattle.std.specs.Prelude.{ℕ, ◌*◌, ◌≤◌, ◌<◌, ◌&&◌, List, ◌≡◌, ltb, length}
use Rattle.std.proofs.Math.Bool.{So}
use Rattle.records.specs.declared.schema.Signature.{Signature}
use Rattle.records.specs.Concept.{Concept}
use Rattle.records.specs.Executable.{is_in}
use Rattle.records.specs.Layout.{concept_layout, entries, object_part}
use Rattle.records.specs.StateRecord.{state_of}
use Rattle.records.specs.ConceptRefusal.{step_at}
use Rattle.records.specs.Helpers.Reading.{start_of, concept_at, HasPath}
use Rattle.rows.specs.Selection.{set_words}
use Rattle.paths.specs.Evaluable.{Evaluable}
use Rattle.rows.specs.Rows.{row_bit}

-- row a of the landings has what the concept selects
pub record Landing (v : List ℕ) (C : Concept) (landings : List ℕ) (a : ℕ) : Type 0 where
  pub bits : (d : ℕ) → d < object_part → row_bit landings a d ≡ (ltb d (state_of v).size && is_in (state_of v) C d)

-- and so for each step whose token stands from a up to e
abbrev pub Landed : List ℕ → List ℕ → List ℕ → ℕ → ℕ → Type 0
Landed w v landings a e = (i : ℕ) → a ≤ i → i < e → So (step_at w i) → Landing v (concept_at w i) landings i

-- a path that can be walked: it ends at e, and all its steps have their landings
pub record Walk (w v landings : List ℕ) (e : ℕ) : Type 0 where
  pub signature : Signature
  pub evaluable : Evaluable signature w v
  pub within : e ≤ entries concept_layout w
  pub path : HasPath w e
  pub room : entries concept_layout w * set_words ≤ length landings
  pub landed : Landed w v landings (start_of w e 1) e
