-- What the walk reads of an accepted view: attributes that have a link, and the tokens at which nothing is made.
use Prim.Native.Nat.{ℕ, suc, ◌≤◌, ◌<◌, ◌^◌}
use native.Mathlib.Omega.{arith}
use mathlib.Core.Bool.{Bool}
use mathlib.Core.List.{List}
use mathlib.Core.Path.{◌≡◌, ap, subst}
use mathlib.Core.Logic.{◌⊎◌, ⊎_elim}
use Rattle.records.specs.declared.token.Token.{Token}
use Rattle.records.specs.declared.token.Token.TheVariants.{Class, Everything, Constant, Mark}
use Rattle.records.specs.Layout.{concept_layout, entries, view_steps, max_attributes}
use Rattle.records.specs.Schema.{Schema}
use Rattle.records.specs.SchemaRecord.{signature_of}
use Rattle.records.specs.Concept.{direction_of, Concept, class, everything, constant, mark}
use Rattle.records.specs.Helpers.Reading.{step_token, concept_at}
use Rattle.records.specs.Helpers.InRange.{TokenInRange}
use Rattle.records.specs.ConceptRecord.{token_at}
use Rattle.records.specs.SchemaRefusal.{AcceptedSchema}
use Rattle.records.specs.ConceptRefusal.{AcceptedConcept}
use Rattle.records.proofs.AcceptedLaws.{passes_1, passes_3, tokens_few, signature_few, token_in_range, step_in_range}
use Rattle.chase.specs.Ground.{Ground}
use Rattle.chase.specs.Forest.{Forest, walk}
use Rattle.records.proofs.ReadingLaws.{Reads}

-- an accepted view is short, and its steps name attributes that a schema can have
module _ (schema view : List ℕ) (ok : AcceptedConcept view_steps (signature_of schema) view) where
  pub view_short : (e : ℕ) → e ≤ entries concept_layout view → e < 2 ^ 16
  view_short e h = omega (arith, tokens_few view (passes_3 view_steps (signature_of schema) view ok))

  pub step_attribute : AcceptedSchema schema → (i P : ℕ) (back : Bool) → i < entries concept_layout view
      → token_at view i ≡ step_token (direction_of back) P
      → P < max_attributes
  step_attribute legal i P back h is =
      step_in_range (direction_of back) (subst TokenInRange is (token_in_range (signature_of schema) (signature_few schema (passes_1 schema legal)) view_steps view ok i h))

-- at the token nothing is made
abbrev pub IsLeaf : Token → Type 0
IsLeaf t = ((A : ℕ) × (t ≡ Class A)) ⊎ ((t ≡ Everything) ⊎ (((a : ℕ) × (t ≡ Constant a)) ⊎ ((k : ℕ) × (t ≡ Mark k))))

module _ (S : Schema) (G : Ground) (w : List ℕ) (e s : ℕ) (l : List ℕ) (T : Forest) where
  walk_as : (C : Concept) → concept_at w (suc e) ≡ C → walk S G (concept_at w (suc e)) s l T ≡ walk S G C s l T
  walk_as C q = ap (λ (D : Concept). walk S G D s l T) q

  pub leaf_walk : (t : Token) → IsLeaf t → Reads w e t → walk S G (concept_at w (suc e)) s l T ≡ T
  leaf_walk t k r =
      ⊎_elim (λ z. walk_as (class z.0) (subst (Reads w e) {y = Class z.0} z.1 r).0)
      (⊎_elim (λ q. walk_as everything (subst (Reads w e) {y = Everything} q r).0)
      (⊎_elim (λ z. walk_as (constant z.0) (subst (Reads w e) {y = Constant z.0} z.1 r).0) (λ z. walk_as (mark z.0) (subst (Reads w e) {y = Mark z.0} z.1 r).0)))
      k
