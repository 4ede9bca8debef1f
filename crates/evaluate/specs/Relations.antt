-- How much room evaluation has: rows for the relations of common objects, and landings.
use Rattle.std.specs.Prelude.{ℕ, ◌^◌, ◌*◌, ◌≤◌, ◌<◌, Bool, true, false, List, length}
use Rattle.std.proofs.Math.Bool.{So}
use Rattle.records.specs.declared.schema.Signature.{Signature}
use Rattle.records.specs.declared.token.Token.{Token}
use Rattle.records.specs.declared.token.Token.TheVariants.{Class, Everything, Constant, Both, Empty, Forward, Backward, Reached, Common, Mark}
use Rattle.records.specs.Finite.{any}
use Rattle.records.specs.Layout.{concept_layout, entries}
use Rattle.records.specs.ConceptRecord.{token_at}
use Rattle.records.specs.StateRecord.{objects}
use Rattle.rows.specs.Blocks.{relation_words}
use Rattle.rows.specs.Selection.{set_words}
use Rattle.paths.specs.Evaluable.{Evaluable}

abbrev pub is_common : Token → Bool
is_common (Class A) = false
is_common Everything = false
is_common (Constant a) = false
is_common Both = false
is_common Empty = false
is_common (Forward P) = false
is_common (Backward P) = false
is_common Reached = false
is_common Common = true
is_common (Mark k) = false

abbrev pub common_at : List ℕ → ℕ → Bool
common_at w i = is_common (token_at w i)

-- records that can be evaluated, and landings with room for a set at each token
pub record Landable (s : Signature) (w v landings : List ℕ) : Type 0 where
  pub evaluable : Evaluable s w v
  pub room : entries concept_layout w * set_words ≤ length landings

-- so many words have room for three relations, where the concept asks for a common object
pub record Relations (w v : List ℕ) (words : ℕ) : Type 0 where
  pub room : So (any (entries concept_layout w) (common_at w)) → relation_words (objects v) ≤ words
  pub few : words < 2 ^ 32
