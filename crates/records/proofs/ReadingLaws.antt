-- Reading a concept's tokens from the right is recursion on the concept: for each token, what its operands are, where they
-- end, and where they start (concept_reads, path_reads).
use Prim.Native.Nat.{ℕ, zero, suc, ◌+◌, ◌-◌, ◌<◌}
use native.Mathlib.Omega.{arith}
use mathlib.Core.Bool.{So, false≢true}
use mathlib.Core.List.{List, [], ◌∷◌}
use mathlib.Core.Logic.{◌⊎◌, ⊎_elim}
use mathlib.Core.Option.{none, some}
use mathlib.Core.Path.{◌≡◌, refl, sym, ap, ap₂, subst, ◌∙◌}
use Rattle.records.specs.declared.token.Token.{Token}
use Rattle.records.specs.declared.token.Token.TheVariants.{Class, Everything, Constant, Both, Empty, Forward, Backward, Reached, Common, Mark}
use Rattle.records.specs.Concept.{Direction, forward, backward, Concept, class, everything, constant, both, reached, common, mark, Path, empty, step}
use Rattle.records.specs.ConceptRecord.{concept, path, Pile, token_at, pile_after, top_concept}
use Rattle.records.specs.ConceptRefusal.{is_concept}
use Rattle.records.specs.Helpers.Steps.{concept_steps, path_steps}
use Rattle.records.specs.Helpers.Reading.{top_path, start_of, concept_at, path_at, HasConcept, HasPath, step_token, step_number}
use Rattle.records.proofs.PileLaws.{last_token, Ends, at_suc, ends_token, ends_none, ends_one, ends_two, pile_empty, start_pile}
use Rattle.records.proofs.SpellingLaws.{Spells, ends_spells, path_spells, concept_number_lem, path_number}

-- the token ends a concept, or it ends a path
abbrev pub EndsConcept : Token → Type 0
EndsConcept t =
    ((A : ℕ) × (t ≡ Class A)) ⊎ ((t ≡ Everything) ⊎ (((a : ℕ) × (t ≡ Constant a)) ⊎ ((t ≡ Both) ⊎ ((t ≡ Reached) ⊎ ((t ≡ Common) ⊎ ((k : ℕ) × (t ≡ Mark k)))))))

abbrev pub EndsPath : Token → Type 0
EndsPath t = (t ≡ Empty) ⊎ (((P : ℕ) × (t ≡ Forward P)) ⊎ ((P : ℕ) × (t ≡ Backward P)))

module _ (w : List ℕ) where
  ends_concept : (C : Concept) (e : ℕ) → Ends w (concept C) e → HasConcept w e × (concept_at w e ≡ C)
  unfolding Ends HasConcept
  ends_concept C e h =
      let q : concept_at w e ≡ C = ap top_concept h.1 in
      ((h.0, h.1 ∙ ap {B = Pile} (λ (D : Concept). some (concept D ∷ h.0)) (sym q)), q)

  ends_path : (p : Path) (e : ℕ) → Ends w (path p) e → HasPath w e × (path_at w e ≡ p)
  unfolding Ends HasPath
  ends_path p e h =
      let q : path_at w e ≡ p = ap top_path h.1 in
      ((h.0, h.1 ∙ ap {B = Pile} (λ (r : Path). some (path r ∷ h.0)) (sym q)), q)

  -- an item ends after a token at least
  pub concept_some : (e : ℕ) → HasConcept w e → 0 < e
  unfolding HasConcept Ends
  concept_some e h = at_suc w (λ e. 0 < e) (concept (concept_at w e)) e h (λ d _. omega arith)

  pub path_some : (e : ℕ) → HasPath w e → 0 < e
  unfolding HasPath Ends
  path_some e h = at_suc w (λ e. 0 < e) (path (path_at w e)) e h (λ d _. omega arith)

  pub concept_next : (e : ℕ) → HasConcept w e → e ≡ suc (e - 1)
  concept_next e h = omega (arith, concept_some e h)

  pub path_next : (e : ℕ) → HasPath w e → e ≡ suc (e - 1)
  path_next e h = omega (arith, path_some e h)

  -- What a token of a concept says: its operands end at e and at m, where the last operand starts.
  abbrev pub Reads : ℕ → Token → Type 0
  Reads e (Class A) = (concept_at w (suc e) ≡ class A) × (start_of w (suc e) 1 ≡ e)
  Reads e Everything = (concept_at w (suc e) ≡ everything) × (start_of w (suc e) 1 ≡ e)
  Reads e (Constant a) = (concept_at w (suc e) ≡ constant a) × (start_of w (suc e) 1 ≡ e)
  Reads e Both =
      let m = start_of w e 1 in
      (concept_at w (suc e) ≡ both (concept_at w m) (concept_at w e))
      × (start_of w (suc e) 1 ≡ start_of w m 1) × HasConcept w e × HasConcept w m
  Reads e Reached = (concept_at w (suc e) ≡ reached (path_at w e)) × (start_of w (suc e) 1 ≡ start_of w e 1) × HasPath w e
  Reads e Common =
      let m = start_of w e 1 in
      (concept_at w (suc e) ≡ common (path_at w m) (path_at w e)) × (start_of w (suc e) 1 ≡ start_of w m 1) × HasPath w e × HasPath w m
  Reads e Empty = ⊥
  Reads e (Forward P) = ⊥
  Reads e (Backward P) = ⊥
  Reads e (Mark k) = (concept_at w (suc e) ≡ mark k) × (start_of w (suc e) 1 ≡ e)

  -- .. and of a path
  abbrev pub ReadsStep : ℕ → Direction → ℕ → Type 0
  ReadsStep e r P =
      let m = start_of w e 1 in
      (path_at w (suc e) ≡ step (path_at w m) r P (concept_at w e)) × (start_of w (suc e) 1 ≡ start_of w m 1) × HasConcept w e × HasPath w m

  abbrev pub ReadsPath : ℕ → Token → Type 0
  ReadsPath e Empty = (path_at w (suc e) ≡ empty) × (start_of w (suc e) 1 ≡ e)
  ReadsPath e (Forward P) = ReadsStep e forward P
  ReadsPath e (Backward P) = ReadsStep e backward P
  ReadsPath e (Class A) = ⊥
  ReadsPath e Everything = ⊥
  ReadsPath e (Constant a) = ⊥
  ReadsPath e Both = ⊥
  ReadsPath e Reached = ⊥
  ReadsPath e Common = ⊥
  ReadsPath e (Mark k) = ⊥

  pub concept_reads : (e : ℕ) (t : Token) → HasConcept w (suc e) → token_at w e ≡ t → Reads e t
  unfolding HasConcept Ends
  concept_reads e t h q =
      subst (Reads e) (sym (ends_token w (concept (concept_at w (suc e))) e h) ∙ q) (go (concept_at w (suc e)) refl h)
    where
      go : (C : Concept) → concept_at w (suc e) ≡ C → Ends w (concept C) (suc e) → Reads e (last_token (concept C))
      go (class A) q h = (q, ends_none w (concept (class A)) e refl h)
      go everything q h = (q, ends_none w (concept everything) e refl h)
      go (constant a) q h = (q, ends_none w (concept (constant a)) e refl h)
      go (both C D) q h =
          let t = ends_two w (concept (both C D)) (concept D) (concept C) e refl h in
          let d = ends_concept D e t.0 in
          let c = ends_concept C (start_of w e 1) t.1 in
          (q ∙ ap₂ both (sym c.1) (sym d.1), t.2, d.0, c.0)
      go (reached p) q h =
          let t = ends_one w (concept (reached p)) (path p) e refl h in
          let d = ends_path p e t.0 in
          (q ∙ ap reached (sym d.1), t.1, d.0)
      go (common p r) q h =
          let t = ends_two w (concept (common p r)) (path r) (path p) e refl h in
          let d = ends_path r e t.0 in
          let c = ends_path p (start_of w e 1) t.1 in
          (q ∙ ap₂ common (sym c.1) (sym d.1), t.2, d.0, c.0)
      go (mark k) q h = (q, ends_none w (concept (mark k)) e refl h)

  pub path_reads : (e : ℕ) (t : Token) → HasPath w (suc e) → token_at w e ≡ t → ReadsPath e t
  unfolding HasPath Ends
  path_reads e t h q = subst (ReadsPath e) (sym (ends_token w (path (path_at w (suc e))) e h) ∙ q) (go (path_at w (suc e)) refl h)
    where
      reads : (p : Path) (r : Direction) (P : ℕ) (C : Concept) → path_at w (suc e) ≡ step p r P C → Ends w (path (step p r P C)) (suc e)
          → ReadsStep e r P
      reads p r P C q h =
          let t = ends_two w (path (step p r P C)) (concept C) (path p) e refl h in
          let d = ends_concept C e t.0 in
          let c = ends_path p (start_of w e 1) t.1 in
          (q ∙ ap₂ (λ (i : Path) (D : Concept). step i r P D) (sym c.1) (sym d.1), t.2, d.0, c.0)

      go : (p : Path) → path_at w (suc e) ≡ p → Ends w (path p) (suc e) → ReadsPath e (last_token (path p))
      go empty q h = (q, ends_none w (path empty) e refl h)
      go (step p forward P C) q h = reads p forward P C q h
      go (step p backward P C) q h = reads p backward P C q h

  pub step_reads : (e : ℕ) (r : Direction) (P : ℕ) → HasPath w (suc e) → token_at w e ≡ step_token r P → ReadsStep e r P
  step_reads e forward P h q = path_reads e (Forward P) h q
  step_reads e backward P h q = path_reads e (Backward P) h q

  -- the last token of an item
  pub concept_suc : (e : ℕ) → HasConcept w e → HasConcept w (suc (e - 1))
  concept_suc e h = subst (HasConcept w) (concept_next e h) h

  pub path_suc : (e : ℕ) → HasPath w e → HasPath w (suc (e - 1))
  path_suc e h = subst (HasPath w) (path_next e h) h

  pub concept_token : (e : ℕ) {t : Token} → HasConcept w e → token_at w (e - 1) ≡ t → Reads (e - 1) t
  concept_token e {t} h q = concept_reads (e - 1) t (concept_suc e h) q

  pub path_token : (e : ℕ) {t : Token} → HasPath w e → token_at w (e - 1) ≡ t → ReadsPath (e - 1) t
  path_token e {t} h q = path_reads (e - 1) t (path_suc e h) q

  -- a path's tokens end no concept, and a concept's end no path
  pub concept_not_path : (e : ℕ) → HasConcept w e → EndsPath (token_at w (e - 1)) → ⊥
  concept_not_path e h = ⊎_elim (λ q. concept_token e h q) (⊎_elim (λ z. concept_token e h z.1) (λ z. concept_token e h z.1))

  pub path_not_concept : (e : ℕ) → HasPath w e → EndsConcept (token_at w (e - 1)) → ⊥
  path_not_concept e h =
      ⊎_elim (λ z. path_token e h z.1)
      (⊎_elim (λ q. path_token e h q)
      (⊎_elim (λ z. path_token e h z.1)
      (⊎_elim (λ q. path_token e h q)
      (⊎_elim (λ q. path_token e h q)
      (⊎_elim (λ q. path_token e h q) (λ z. path_token e h z.1))))))

  -- the tokens from its start spell it
  pub concept_spells : (e : ℕ) → HasConcept w e → Spells w (concept_at w e) (start_of w e 1) e
  unfolding HasConcept Ends
  concept_spells e h = ends_spells w (concept_at w e) e h

  pub number_concept : (e : ℕ) → HasConcept w e → step_number w e ≡ step_number w (start_of w e 1) + concept_steps (concept_at w e)
  number_concept e h = concept_number_lem w (concept_at w e) (start_of w e 1) e (concept_spells e h)

  pub number_path : (e : ℕ) → HasPath w e → step_number w e ≡ step_number w (start_of w e 1) + path_steps (path_at w e)
  unfolding HasPath Ends
  number_path e h = path_number w (path_at w e) (start_of w e 1) e (path_spells w (path_at w e) e h)

  -- a concept that is the whole pile starts at the first token
  pub whole_concept : (n : ℕ) → So (is_concept (pile_after w n)) → HasConcept w n × (start_of w n 1 ≡ zero)
  unfolding Ends
  whole_concept n h = go (pile_after w n) refl h
    where
      go : (p : Pile) → pile_after w n ≡ p → So (is_concept p) → HasConcept w n × (start_of w n 1 ≡ zero)
      go none q k = absurd (false≢true k)
      go (some []) q k = absurd (false≢true k)
      go (some (concept C ∷ [])) q k =
          ((ends_concept C n ([], q)).0, pile_empty w (start_of w n 1) (start_pile w n 1 (concept C ∷ []) q (omega arith)))
      go (some (concept C ∷ x ∷ s)) q k = absurd (false≢true k)
      go (some (path p ∷ s)) q k = absurd (false≢true k)
