-- What tokens with declared arguments spell is declared, by recursion on the concept that they spell; and what is declared where
-- no mark is allowed has none.
use Prim.Native.Nat.{ℕ, ◌≤◌, ◌<◌}
use native.Mathlib.Omega.{arith}
use mathlib.Core.Bool.{So}
use mathlib.Core.List.{List}
use mathlib.Core.Path.{◌≡◌, subst}
use lib.Dec.{ltb}
use borrow.Author.Tests.{ltb-true}
use Rattle.records.specs.declared.token.Token.{Token}
use Rattle.records.specs.declared.token.Token.TheVariants.{Class, Constant, Forward, Backward, Mark}
use Rattle.records.specs.declared.schema.Signature.{Signature}
use Rattle.records.specs.Concept.{Direction, forward, backward, Concept, class, everything, constant, both, reached, common, mark, Path, empty, step}
use Rattle.records.specs.Layout.{concept_layout, right_at, max_marks, no_marks}
use Rattle.records.specs.Marks.{allowing}
use Rattle.records.specs.Choice.{Unmarked, UnmarkedPath}
use Rattle.records.specs.ConceptRecord.{token_at}
use Rattle.records.specs.ConceptRefusal.{suits}
use Rattle.records.specs.Helpers.Reading.{start_of, concept_at, HasConcept, step_token}
use Rattle.records.proofs.General.BoolLaws.{not_both, and_right}
use Rattle.records.proofs.General.BitLaws.{word_zero}
use Rattle.records.proofs.SpellingLaws.{Spells, SpellsPath, spells_order, path_order}
use Rattle.records.proofs.ReadingLaws.{concept_spells}
use Rattle.records.specs.Helpers.Declared.{Declared, DeclaredPath}

module _ (w : List ℕ) (g : Signature) (n : ℕ) (suited : (i : ℕ) → i < n → So (suits g (token_at w i) (right_at concept_layout w i))) where
  suits_as : (i : ℕ) (t : Token) → i < n → token_at w i ≡ t → So (suits g t (right_at concept_layout w i))
  suits_as i t h q = subst (λ (t : Token). So (suits g t (right_at concept_layout w i))) q (suited i h)

  suits_step : (r : Direction) (P i : ℕ) → i < n → token_at w i ≡ step_token r P
      → P < g.attributes
  suits_step forward P i h q = ltb-true P g.attributes (suits_as i (Forward P) h q)
  suits_step backward P i h q = ltb-true P g.attributes (suits_as i (Backward P) h q)

  mutual
    concept_declared : (C : Concept) (b e : ℕ) → e ≤ n → Spells w C b e → Declared g C
    concept_declared (class A) b e h s = ltb-true A g.classes (suits_as b (Class A) (omega (arith, s.0)) s.1)
    concept_declared everything b e h s = tt
    concept_declared (constant a) b e h s = ltb-true a g.constants (suits_as b (Constant a) (omega (arith, s.0)) s.1)
    concept_declared (both C D) b e h s = (
      concept_declared C b s.0 (omega (arith, s.4, spells_order w D s.0 s.1 s.3)) s.2,
      concept_declared D s.0 s.1
          (omega (arith, s.4)) s.3,
    )
    concept_declared (reached p) b e h s = path_declared p b s.0 (omega (arith, s.2)) s.1
    concept_declared (common p q) b e h s = (
      path_declared p b s.0 (omega (arith, s.4, path_order w q s.0 s.1 s.3)) s.2,
      path_declared q s.0 s.1
          (omega (arith, s.4)) s.3,
    )
    concept_declared (mark k) b e h s = suits_as b (Mark k) (omega (arith, s.0)) s.1

    path_declared : (p : Path) (b e : ℕ) → e ≤ n → SpellsPath w p b e → DeclaredPath g p
    path_declared empty b e h s = tt
    path_declared (step p r P C) b e h s = (
      path_declared p b s.0 (omega (arith, s.4, spells_order w C s.0 s.1 s.3)) s.2,
      suits_step r P s.1 (omega (arith, s.4)) s.5,
      concept_declared C s.0 s.1 (omega (arith, s.4)) s.3,
    )

  pub declared_concept : HasConcept w n → Declared g (concept_at w n)
  declared_concept h = concept_declared (concept_at w n) (start_of w n 1) n (omega arith) (concept_spells w n h)

-- with no mark allowed there is none
mutual
  pub declared_unmarked : (s : Signature) (C : Concept) → Declared (allowing no_marks s) C → Unmarked C
  declared_unmarked s (class A) c = tt
  declared_unmarked s everything c = tt
  declared_unmarked s (constant a) c = tt
  declared_unmarked s (both C D) c = (declared_unmarked s C c.0, declared_unmarked s D c.1)
  declared_unmarked s (reached p) c = path_unmarked s p c
  declared_unmarked s (common p q) c = (path_unmarked s p c.0, path_unmarked s q c.1)
  declared_unmarked s (mark k) c = absurd (not_both _ (and_right (ltb k max_marks) _ c) (word_zero k))

  path_unmarked : (s : Signature) (p : Path) → DeclaredPath (allowing no_marks s) p → UnmarkedPath p
  path_unmarked s empty c = tt
  path_unmarked s (step p r P C) c = (path_unmarked s p c.0, declared_unmarked s C c.2)
