-- The end of a path by its last token: a step's number, or where the empty path starts.
use Prim.Native.Nat.{ℕ, suc, ◌-◌}
use mathlib.Core.Bool.{So, false, true≢false, false≢true}
use mathlib.Core.List.{List}
use mathlib.Core.Path.{◌≡◌, refl, ap, subst, ◌∙◌}
use Rattle.records.specs.declared.token.Token.{Token}
use Rattle.records.specs.declared.token.Token.TheVariants.{Class, Everything, Constant, Both, Empty, Forward, Backward, Reached, Common, Mark}
use Rattle.records.specs.Concept.{forward, backward}
use Rattle.records.specs.ConceptRecord.{token_at}
use Rattle.records.specs.ConceptRefusal.{is_step, step_at}
use Rattle.records.specs.Helpers.Reading.{HasPath, step_number}
use Rattle.chase.specs.QueryTokens.{end_at}
use Rattle.records.proofs.ReadingLaws.{ReadsPath, path_reads, path_next}
use Rattle.chase.proofs.QueryTokenLaws.{facts_empty, facts_step}

module _ (w : List ℕ) where
  module _ (e n : ℕ) where
    step_ends : (t : Token) → ReadsPath w e t → So (is_step t) → end_at w (suc e) n ≡ step_number w e
    step_ends (Class A) r h = absurd r
    step_ends Everything r h = absurd r
    step_ends (Constant a) r h = absurd r
    step_ends Both r h = absurd r
    step_ends Empty r h = absurd (false≢true h)
    step_ends (Forward P) r h = (facts_step 0 w e n forward P r).1
    step_ends (Backward P) r h = (facts_step 0 w e n backward P r).1
    step_ends Reached r h = absurd r
    step_ends Common r h = absurd r
    step_ends (Mark k) r h = absurd r

    empty_ends : (t : Token) → ReadsPath w e t → is_step t ≡ false → end_at w (suc e) n ≡ n
    empty_ends (Class A) r h = absurd r
    empty_ends Everything r h = absurd r
    empty_ends (Constant a) r h = absurd r
    empty_ends Both r h = absurd r
    empty_ends Empty r h = (facts_empty 0 w e n r).1
    empty_ends (Forward P) r h = absurd (true≢false h)
    empty_ends (Backward P) r h = absurd (true≢false h)
    empty_ends Reached r h = absurd r
    empty_ends Common r h = absurd r
    empty_ends (Mark k) r h = absurd r

  module _ (e n : ℕ) (h : HasPath w e) where
    reads : ReadsPath w (e - 1) (token_at w (e - 1))
    reads = path_reads w (e - 1) (token_at w (e - 1)) (subst (HasPath w) (path_next w e h) h) refl

    pub end_step : So (step_at w (e - 1)) → end_at w e n ≡ step_number w (e - 1)
    end_step s = ap (λ (i : ℕ). end_at w i n) (path_next w e h) ∙ step_ends (e - 1) n (token_at w (e - 1)) reads s

    pub end_empty : step_at w (e - 1) ≡ false → end_at w e n ≡ n
    end_empty s = ap (λ (i : ℕ). end_at w i n) (path_next w e h) ∙ empty_ends (e - 1) n (token_at w (e - 1)) reads s
