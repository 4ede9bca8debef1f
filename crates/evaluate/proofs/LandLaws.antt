-- What the tokens of a span put into the landings: nothing by a token that is no step, and two spans side by side are one.
use Prim.Native.Nat.{ℕ, suc, ◌≤◌, ◌<◌}
use mathlib.Core.Bool.{So, false}
use mathlib.Core.List.{List}
use mathlib.Core.Logic.{inl, inr, ⊎_elim}
use mathlib.Core.Path.{◌≡◌, refl, sym, subst, ◌∙◌}
use native.Mathlib.Decide.{ℕ_discrete, dec_lt}
use native.Mathlib.Omega.{arith}
use Rattle.records.specs.StateRecord.{state_of}
use Rattle.records.specs.ConceptRefusal.{step_at}
use Rattle.records.specs.Helpers.Reading.{concept_at}
use Rattle.records.proofs.General.BoolLaws.{not_both}
use Rattle.rows.specs.Selection.{Selection}
use Rattle.rows.specs.Rows.{Put}
use Rattle.paths.specs.Landings.{Landing}
use Rattle.evaluate.specs.Places.{Lands}

module _ {w v : List ℕ} where
  lands_none : {at : ℕ} {ls : List ℕ} → step_at w at ≡ false → Lands w v at (suc at) ls ls
  lands_none {at} {ls} h =
      record {
        size = refl;
        landed = λ i a b t. let e : i ≡ at = omega arith in absurd (not_both (step_at w at) (rw e at t) h);
        kept = λ i _ d l. refl;
      }

  pub lands_join : {a m e : ℕ} {xs ys zs : List ℕ} → Lands w v m e xs ys → Lands w v a m ys zs → a ≤ m → m ≤ e → Lands w v a e xs zs
  lands_join {a} {m} {e} {xs} {ys} {zs} y z l k =
      record {
        size = z.size ∙ y.size;
        landed = λ i p q t. pick i p q t (dec_lt i m);
        kept = λ i o d r.
            ⊎_elim (λ p. z.kept i (inl p) d r ∙ y.kept i (inl (omega arith)) d r)
            (λ p. z.kept i (inr (omega arith)) d r ∙ y.kept i (inr p) d r) o;
      }
    where
      pick : (i : ℕ) → a ≤ i → i < e → So (step_at w i) → Dec (i < m) → Landing v (concept_at w i) zs i
      pick i p q t (yes j) = z.landed i p j t
      pick i p q t (no j) =
          record { bits = λ d r. z.kept i (inr (omega arith)) d r ∙ (y.landed i (omega arith) q t).bits d r }

  -- the token after the span is no step
  pub lands_token : {a e : ℕ} {xs ys : List ℕ} → Lands w v a e xs ys → a ≤ e → step_at w e ≡ false → Lands w v a (suc e) xs ys
  lands_token y l h = lands_join (lands_none h) y l (omega arith)

  pub lands_one : {at : ℕ} {ls : List ℕ} {a : ℕ} → a ≡ at → step_at w at ≡ false → Lands w v a (suc at) ls ls
  lands_one e h = rw e (lands_none h)

  -- .. or it is a step, and what its concept selects is put at its place
  pub lands_put : {m at : ℕ} {xs ys set zs : List ℕ} → Lands w v m at xs ys → m ≤ at → Selection (state_of v) (concept_at w at) set
      → Put ys at set zs
      → Lands w v m (suc at) xs zs
  lands_put {m} {at} {xs} {ys} {set} {zs} y l s p =
      record {
        size = p.size ∙ y.size;
        landed = λ i a b t. pick i a b t (ℕ_discrete i at);
        kept = λ i o d r.
            ⊎_elim (λ q. p.kept i (λ j. omega arith) d r ∙ y.kept i (inl q) d r)
            (λ q. p.kept i (λ j. omega arith) d r ∙ y.kept i (inr (omega arith)) d r) o;
      }
    where
      pick : (i : ℕ) → m ≤ i → i < suc at → So (step_at w i) → Dec (i ≡ at) → Landing v (concept_at w i) zs i
      pick i a b t (yes e) = subst (λ (j : ℕ). Landing v (concept_at w j) zs j) (sym e) (record { bits = λ d r. p.own d r ∙ s.bits d r })
      pick i a b t (no n) = record { bits = λ d r. p.kept i n d r ∙ (y.landed i a (omega arith) t).bits d r }
