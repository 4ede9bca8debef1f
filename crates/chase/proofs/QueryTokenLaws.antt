-- What the query's tokens ask, token by token, from what a token says (Reads): an item's facts are those of its operands, the
-- last first, with the fact of its own token between them.
use Prim.Native.Nat.{ℕ, suc, ◌+◌}
use native.Mathlib.Omega.{arith}
use mathlib.Core.List.{List}
use mathlib.Core.Path.{◌≡◌, sym, ap, ap₂, ◌∙◌}
use Rattle.records.specs.declared.token.Token.TheVariants.{Class, Everything, Constant, Both, Empty, Reached, Common, Mark}
use Rattle.records.specs.Concept.{Direction, Concept, class, everything, constant, both, reached, common, mark, Path}
use Rattle.records.specs.Helpers.Reading.{start_of, concept_at, path_at, step_number}
use Rattle.records.proofs.ReadingLaws.{Reads, ReadsStep, ReadsPath, number_concept, number_path}
use Rattle.records.specs.Helpers.Steps.{concept_steps, path_steps}
use Rattle.chase.specs.Facts.{at_node, of_mark, none, member, equal, related, ◌⊕◌, end_node, concept_facts, path_facts}
use Rattle.chase.specs.QueryTokens.{facts_at, path_facts_at, end_at}

module _ (first : ℕ) (w : List ℕ) (e n : ℕ) where
  -- the facts are those of the concept that is read
  facts_of : (C : Concept) (b : ℕ) → concept_at w (suc e) ≡ C → start_of w (suc e) 1 ≡ b
      → facts_at first w (suc e) n ≡ concept_facts first C n (step_number w b)
  facts_of C b q s = ap₂ (λ (D : Concept) (i : ℕ). concept_facts first D n (step_number w i)) q s

  pub facts_class : (A : ℕ) → Reads w e (Class A) → facts_at first w (suc e) n ≡ member A n
  facts_class A r = facts_of (class A) e r.0 r.1

  pub facts_everything : Reads w e Everything → facts_at first w (suc e) n ≡ none
  facts_everything r = facts_of everything e r.0 r.1

  pub facts_constant : (a : ℕ) → Reads w e (Constant a) → facts_at first w (suc e) n ≡ equal n (at_node (first + a))
  facts_constant a r = facts_of (constant a) e r.0 r.1

  pub facts_mark : (k : ℕ) → Reads w e (Mark k) → facts_at first w (suc e) n ≡ equal n (of_mark k)
  facts_mark k r = facts_of (mark k) e r.0 r.1

  pub facts_both : Reads w e Both → facts_at first w (suc e) n ≡ facts_at first w e n ⊕ facts_at first w (start_of w e 1) n
  facts_both r =
      let m = start_of w e 1 in
      facts_of (both (concept_at w m) (concept_at w e)) (start_of w m 1) r.0 r.1
      ∙ ap (λ (k : ℕ). concept_facts first (concept_at w e) n k ⊕ facts_at first w m n) (sym (number_concept w m r.3))

  pub facts_reached : Reads w e Reached → facts_at first w (suc e) n ≡ path_facts_at first w e n
  facts_reached r = facts_of (reached (path_at w e)) (start_of w e 1) r.0 r.1

  pub facts_common : Reads w e Common
      → facts_at first w (suc e) n
      ≡ path_facts_at first w e n ⊕ equal (end_at w (start_of w e 1) n) (at_node (end_at w e n)) ⊕ path_facts_at first w (start_of w e 1) n
  facts_common r =
      let m = start_of w e 1 in
      facts_of (common (path_at w m) (path_at w e)) (start_of w m 1) r.0 r.1
      ∙ ap (λ (k : ℕ). path_facts first (path_at w e) n k ⊕ equal (end_at w m n) (at_node (end_node (path_at w e) n k)) ⊕ path_facts_at first w m n)
      (sym (number_path w m r.3))

  -- a path's facts, with its end
  pub facts_empty : ReadsPath w e Empty → (path_facts_at first w (suc e) n ≡ none) × (end_at w (suc e) n ≡ n)
  facts_empty r = (
    ap₂ (λ (p : Path) (i : ℕ). path_facts first p n (step_number w i)) r.0 r.1,
    ap₂ (λ (p : Path) (i : ℕ). end_node p n (step_number w i)) r.0 r.1,
  )

  pub facts_step : (r : Direction) (P : ℕ) → ReadsStep w e r P
      → let m = start_of w e 1 in
      let j = step_number w e in
      (path_facts_at first w (suc e) n ≡ facts_at first w e j ⊕ related r P (end_at w m n) j ⊕ path_facts_at first w m n)
      × (end_at w (suc e) n ≡ j)
  facts_step r P h =
      let m = start_of w e 1 in
      let k = step_number w (start_of w m 1) in
      let a : k + path_steps (path_at w m) ≡ step_number w m = sym (number_path w m h.3) in
      let b : k + path_steps (path_at w m) + concept_steps (concept_at w e) ≡ step_number w e = omega (arith, a, number_concept w e h.2) in (
        ap₂ (λ (p : Path) (i : ℕ). path_facts first p n (step_number w i)) h.0 h.1
            ∙ ap₂ (λ (i j : ℕ). concept_facts first (concept_at w e) j i ⊕ related r P (end_at w m n) j ⊕ path_facts_at first w m n) a b,
        ap₂ (λ (p : Path) (i : ℕ). end_node p n (step_number w i)) h.0 h.1 ∙ b,
      )
