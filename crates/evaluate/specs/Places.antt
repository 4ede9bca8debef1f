-- What evaluation at a place of the concept record asks and promises, of the concept or of the path that ends there.
-- What a step lands on is kept in the landings, at the place of its token.
use Rattle.std.specs.Prelude.{ℕ, ◌*◌, ◌^◌, ◌≤◌, ◌<◌, List, ◌⊎◌, ◌≡◌, length}
use Rattle.records.specs.declared.token.Token.TheVariants.{Common}
use Rattle.records.specs.declared.schema.Signature.{Signature}
use Rattle.records.specs.Layout.{concept_layout, entries, object_part}
use Rattle.records.specs.StateRecord.{objects, state_of}
use Rattle.records.specs.ConceptRecord.{token_at}
use Rattle.records.specs.Helpers.Reading.{start_of, concept_at}
use Rattle.evaluate.specs.declared.items.Found.{Found}
use Rattle.rows.specs.Selection.{set_words, Selection}
use Rattle.paths.specs.Evaluable.{Evaluable}
use Rattle.rows.specs.Rows.{row_bit}
use Rattle.rows.specs.Blocks.{relation_words}
use Rattle.paths.specs.Landings.{Landed}

-- records of some signature that can be evaluated, a place e of the concept, and room for its landings and, where it asks for
-- a common object, for three relations
pub record Place (w v landings rows : List ℕ) (e : ℕ) : Type 0 where
  pub signature : Signature
  pub evaluable : Evaluable signature w v
  pub within : e ≤ entries concept_layout w
  pub room : entries concept_layout w * set_words ≤ length landings
  pub relations : (i : ℕ) → i < e → token_at w i ≡ Common → relation_words (objects v) ≤ length rows
  pub few : length rows < 2 ^ 32

-- the tokens from a up to e put theirs there, and leave the rest as it was
pub record Lands (w v : List ℕ) (a e : ℕ) (before after : List ℕ) : Type 0 where
  pub size : length after ≡ length before
  pub landed : Landed w v after a e
  pub kept : (i : ℕ) → (i < a) ⊎ (e ≤ i) → (d : ℕ) → d < object_part → row_bit after i d ≡ row_bit before i d

-- where the concept's tokens start, what it selects, and what its steps land on
pub record ConceptAt (w v : List ℕ) (e : ℕ) (before after rows vs : List ℕ) (r : Found) : Type 0 where
  pub start : r.start ≡ start_of w e 1
  pub selection : Selection (state_of v) (concept_at w e) r.set
  pub landings : Lands w v (start_of w e 1) e before after
  pub size : length vs ≡ length rows

-- where the path's tokens start, and what its steps land on
pub record PathAt (w v : List ℕ) (e : ℕ) (before after rows vs : List ℕ) (r : ℕ) : Type 0 where
  pub start : r ≡ start_of w e 1
  pub landings : Lands w v (start_of w e 1) e before after
  pub size : length vs ≡ length rows
