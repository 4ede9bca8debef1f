-- The pairs are settled one after the other: a view is compared with each before it, and at the end the rows tell of every pair.
use Prim.Native.Nat.{ℕ, ◌+◌, ◌≤◌, ◌<◌}
use mathlib.Core.Bool.{So, false≢true}
use mathlib.Core.List.{List}
use mathlib.Core.Logic.{◌⊎◌, inl, inr}
use mathlib.Core.Path.{◌≡◌, refl}
use native.Mathlib.Decide.{ℕ_discrete}
use native.Mathlib.Omega.{arith}
use Rattle.records.specs.SchemaRecord.{schema_of}
use Rattle.records.specs.CatalogueRecord.{views, view_at}
use Rattle.records.proofs.General.BoolLaws.{false_of, or_left, or_true_cases}
use Rattle.records.proofs.SubsumptionLaws.{held_not_open}
use Rattle.decide.specs.Holding.{Tells}
use Rattle.catalogue.specs.Helpers.{in_row, settled, Known, Grown, HeldRows}
use Rattle.catalogue.proofs.KnownLaws.{view, grown_same, grown_after}

module _ (schema w : List ℕ) where
  abbrev n : ℕ
  n = views w

  -- View j is compared with each view before it from i on.
  pub record Compared (rows opens : List ℕ) (j i : ℕ) (rows' opens' : List ℕ) : Type 0 where
    pub grown : Grown schema w rows opens rows' opens'
    pub told : (a : ℕ) → i ≤ a → a < j → So (settled rows' opens' a j) × So (settled rows' opens' j a)

  pub compared_none : {rows opens : List ℕ} (j : ℕ) → Known schema w rows opens → Compared rows opens j j rows opens
  compared_none j z = record { grown = grown_same schema w _ _ z; told = λ a h k. absurd (omega arith) }

  pub compared_more : {rows opens rows' opens' : List ℕ} {j i k : ℕ} → k ≡ i + 1 → Compared rows opens j k rows' opens'
      → {one uno two duo : List ℕ} → Grown schema w rows' opens' one uno → So (settled one uno i j)
      → Grown schema w one uno two duo → So (settled two duo j i) → Compared rows opens j i two duo
  compared_more {j = j} {i = i} e z {two = two} {duo = duo} g x h y =
      record {
        grown = grown_after schema w (grown_after schema w z.grown g) h;
        told = λ a b c.
            elim (ℕ_discrete a i) [
              | yes q ↦ rw q (h.keeps i j x, y)
              | no d ↦ let t = z.told a (omega arith) c in (h.keeps a j (g.keeps a j t.0), h.keeps j a (g.keeps j a t.1))
            ];
      }

  -- The views below j are compared with each other.
  pub record Met (j : ℕ) (rows opens : List ℕ) : Type 0 where
    pub known : Known schema w rows opens
    pub told : (a b : ℕ) → a < j → b < j → So (settled rows opens a b)

  pub met_none : {rows opens : List ℕ} → Known schema w rows opens → Met 0 rows opens
  met_none z = record { known = z; told = λ a b h k. absurd (omega arith) }

  pub met_more : {rows opens rows' opens' : List ℕ} {j : ℕ} → j < n → Met j rows opens → Grown schema w rows opens rows' opens'
      → ((i : ℕ) → i < j → So (settled rows' opens' i j) × So (settled rows' opens' j i)) → Met (j + 1) rows' opens'
  met_more {rows' = rows'} {opens' = opens'} {j = j} l m g t = record { known = g.known; told = each }
    where
      each : (a b : ℕ) → a < j + 1 → b < j + 1 → So (settled rows' opens' a b)
      each a b h k =
          elim (ℕ_discrete a j) [
            | yes e ↦
                elim (ℕ_discrete b j) [
                  | yes f ↦ rw (e, f) (or_left (in_row rows' j j) (in_row opens' j j) (g.known.self j l))
                  | no d ↦ rw e (t b (omega arith)).1
                ]
            | no c ↦
                elim (ℕ_discrete b j) [
                  | yes f ↦ rw f (t a (omega arith)).0
                  | no d ↦ g.keeps a b (m.told a b (omega arith) (omega arith))
                ]
          ]

  -- At the end the rows tell of each pair.
  pub met_all : {rows opens : List ℕ} → Met n rows opens → HeldRows schema w rows
  met_all {rows} {opens} m =
      record {
        size = m.known.size;
        tells = λ i j h k. tell i j (or_true_cases (in_row rows i j) (in_row opens i j) (m.told i j h k));
        inside = λ i j h. let x = m.known.is_held i j h in (x.0, x.1);
      }
    where
      tell : (i j : ℕ) → So (in_row rows i j) ⊎ So (in_row opens i j) → Tells schema (view_at w i) (view_at w j) (in_row rows i j)
      tell i j (inl x) =
          let held = (m.known.is_held i j x).2 in
          rw x
          (record {
            is_held = (λ _. held, λ _. refl);
            is_open = (λ e. absurd (false≢true e), λ o. absurd (held_not_open (schema_of schema) (view schema w i) (view schema w j) held o));
          })
      tell i j (inr x) =
          let opened = (m.known.is_open i j x).2 in
          rw (false_of (in_row rows i j) (λ h. held_not_open (schema_of schema) (view schema w i) (view schema w j) (m.known.is_held i j h).2 opened))
          (record {
            is_held = (λ e. absurd (false≢true e), λ h. absurd (held_not_open (schema_of schema) (view schema w i) (view schema w j) h opened));
            is_open = (λ _. opened, λ _. refl);
          })
