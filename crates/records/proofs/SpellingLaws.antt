-- What tokens spell, by recursion on the concept: an item on the pile is spelt from where it starts to where it ends. So its
-- steps are numbered between the two.
use Prim.Native.Nat.{ℕ, suc, ◌+◌, ◌<◌}
use native.Mathlib.Omega.{arith}
use mathlib.Core.Bool.{true, false}
use mathlib.Core.List.{List, [], ◌∷◌}
use mathlib.Core.Path.{◌≡◌, refl, sym, ap, subst, ◌∙◌}
use Rattle.records.specs.declared.token.Token.{Token}
use Rattle.records.specs.declared.token.Token.TheVariants.{Class, Everything, Constant, Both, Empty, Reached, Common, Mark}
use Rattle.records.specs.Concept.{Direction, forward, backward, Concept, class, everything, constant, both, reached, common, mark, Path, empty, step}
use Rattle.records.specs.ConceptRecord.{Item, concept, path, token_at}
use Rattle.records.specs.ConceptRefusal.{is_step, step_at}
use Rattle.records.specs.Helpers.Steps.{concept_steps, path_steps}
use Rattle.records.specs.Helpers.Reading.{start_of, step_token, step_number}
use Rattle.records.proofs.General.FiniteLaws.{count_next, count_still}
use Rattle.records.proofs.PileLaws.{last_token, operands, Ends, at_suc, ends_token, ends_none, ends_one, ends_two}

module _ (w : List ℕ) where
  -- the tokens from b to e spell the concept, or the path
  abbrev mutual
    pub Spells : Concept → ℕ → ℕ → Type 0
    Spells (class A) b e = (e ≡ suc b) × (token_at w b ≡ Class A)
    Spells everything b e = (e ≡ suc b) × (token_at w b ≡ Everything)
    Spells (constant a) b e = (e ≡ suc b) × (token_at w b ≡ Constant a)
    Spells (both C D) b e = (m d : ℕ) × Spells C b m × Spells D m d × (e ≡ suc d) × (token_at w d ≡ Both)
    Spells (reached p) b e = (d : ℕ) × SpellsPath p b d × (e ≡ suc d) × (token_at w d ≡ Reached)
    Spells (common p q) b e = (m d : ℕ) × SpellsPath p b m × SpellsPath q m d × (e ≡ suc d) × (token_at w d ≡ Common)
    Spells (mark k) b e = (e ≡ suc b) × (token_at w b ≡ Mark k)

    pub SpellsPath : Path → ℕ → ℕ → Type 0
    SpellsPath empty b e = (e ≡ suc b) × (token_at w b ≡ Empty)
    SpellsPath (step p r P C) b e =
        (m d : ℕ) × SpellsPath p b m × Spells C m d × (e ≡ suc d) × (token_at w d ≡ step_token r P)

  mutual
    pub spells_order : (C : Concept) (b e : ℕ) → Spells C b e → b < e
    spells_order (class A) b e s = omega (arith, s.0)
    spells_order everything b e s = omega (arith, s.0)
    spells_order (constant a) b e s = omega (arith, s.0)
    spells_order (both C D) b e s = omega (arith, s.4, spells_order C b s.0 s.2, spells_order D s.0 s.1 s.3)
    spells_order (reached p) b e s = omega (arith, s.2, path_order p b s.0 s.1)
    spells_order (common p q) b e s = omega (arith, s.4, path_order p b s.0 s.2, path_order q s.0 s.1 s.3)
    spells_order (mark k) b e s = omega (arith, s.0)

    pub path_order : (p : Path) (b e : ℕ) → SpellsPath p b e → b < e
    path_order empty b e s = omega (arith, s.0)
    path_order (step p r P C) b e s = omega (arith, s.4, path_order p b s.0 s.2, spells_order C s.0 s.1 s.3)

  spells_none : (x : Item) (e : ℕ) → operands x ≡ [] → Ends w x e → (e ≡ suc (start_of w e 1)) × (token_at w (start_of w e 1) ≡ last_token x)
  spells_none x e o h =
      at_suc w (λ e. (e ≡ suc (start_of w e 1)) × (token_at w (start_of w e 1) ≡ last_token x)) x e h λ d k.
      let s = ends_none w x d o k in
      (ap suc (sym s), ap (token_at w) s ∙ ends_token w x d k)

  -- two operands that are spelt, X up to m and Y from there
  spells_two : (X Y : ℕ → ℕ → Type 0) (x y z : Item) (e : ℕ) → operands x ≡ y ∷ z ∷ [] → Ends w x e
      → ((d : ℕ) → Ends w y d → Y (start_of w d 1) d)
      → ((d : ℕ) → Ends w z d → X (start_of w d 1) d)
      → (m d : ℕ) × X (start_of w e 1) m × Y m d × (e ≡ suc d) × (token_at w d ≡ last_token x)
  spells_two X Y x y z e o h fy fx =
      at_suc w (λ e. (m d : ℕ) × X (start_of w e 1) m × Y m d × (e ≡ suc d) × (token_at w d ≡ last_token x)) x e h λ d k.
      let t = ends_two w x y z d o k in (
        start_of w d 1,
        d,
        subst (λ (b : ℕ). X b (start_of w d 1)) (sym t.2) (fx (start_of w d 1) t.1),
        fy d
            t.0,
        refl,
        ends_token w x d k,
      )

  mutual
    pub ends_spells : (C : Concept) (e : ℕ) → Ends w (concept C) e → Spells C (start_of w e 1) e
    ends_spells (class A) e h = spells_none (concept (class A)) e refl h
    ends_spells everything e h = spells_none (concept everything) e refl h
    ends_spells (constant a) e h = spells_none (concept (constant a)) e refl h
    ends_spells (both C D) e h =
        spells_two (Spells C) (Spells D) (concept (both C D)) (concept D) (concept C) e refl h (λ d k. ends_spells D d k)
        (λ d k. ends_spells C d k)
    ends_spells (reached p) e h =
        at_suc w (λ e. (d : ℕ) × SpellsPath p (start_of w e 1) d × (e ≡ suc d) × (token_at w d ≡ Reached)) (concept (reached p)) e h λ d k.
        let t = ends_one w (concept (reached p)) (path p) d refl k in
        (d, subst (λ (b : ℕ). SpellsPath p b d) (sym t.1) (path_spells p d t.0), refl, ends_token w (concept (reached p)) d k)
    ends_spells (common p q) e h =
        spells_two (SpellsPath p) (SpellsPath q) (concept (common p q)) (path q) (path p) e refl h (λ d k. path_spells q d k)
        (λ d k. path_spells p d k)
    ends_spells (mark k) e h = spells_none (concept (mark k)) e refl h

    pub path_spells : (p : Path) (e : ℕ) → Ends w (path p) e → SpellsPath p (start_of w e 1) e
    path_spells empty e h = spells_none (path empty) e refl h
    path_spells (step p r P C) e h =
        spells_two (SpellsPath p) (Spells C) (path (step p r P C)) (concept C) (path p) e refl h (λ d k. ends_spells C d k)
        (λ d k. path_spells p d k)

  -- the number of steps before and in an item
  step_next : (e : ℕ) (t : Token) → token_at w e ≡ t → is_step t ≡ true → step_number w (suc e) ≡ suc (step_number w e)
  step_next e t q h = count_next (step_at w) e (ap is_step q ∙ h)

  step_same : (e : ℕ) (t : Token) → token_at w e ≡ t → is_step t ≡ false → step_number w (suc e) ≡ step_number w e
  step_same e t q h = count_still (step_at w) e (ap is_step q ∙ h)

  step_step : (r : Direction) (P : ℕ) → is_step (step_token r P) ≡ true
  step_step forward P = refl
  step_step backward P = refl

  -- the steps of what is spelt stand between its start and its end
  mutual
    pub concept_number_lem : (C : Concept) (b e : ℕ) → Spells C b e → step_number w e ≡ step_number w b + concept_steps C
    concept_number_lem (class A) b e s = omega (arith, ap (step_number w) s.0, step_same b (Class A) s.1 refl)
    concept_number_lem everything b e s = omega (arith, ap (step_number w) s.0, step_same b Everything s.1 refl)
    concept_number_lem (constant a) b e s = omega (arith, ap (step_number w) s.0, step_same b (Constant a) s.1 refl)
    concept_number_lem (both C D) b e s =
        omega (
          arith,
          ap (step_number w) s.4,
          step_same s.1 Both s.5 refl,
          concept_number_lem C b s.0 s.2,
          concept_number_lem D s.0
              s.1 s.3,
        )
    concept_number_lem (reached p) b e s =
        omega (arith, ap (step_number w) s.2, step_same s.0 Reached s.3 refl, path_number p b s.0 s.1)
    concept_number_lem (common p q) b e s =
        omega (
          arith,
          ap (step_number w) s.4,
          step_same s.1 Common s.5 refl,
          path_number p b s.0 s.2,
          path_number q s.0
              s.1 s.3,
        )
    concept_number_lem (mark k) b e s = omega (arith, ap (step_number w) s.0, step_same b (Mark k) s.1 refl)

    pub path_number : (p : Path) (b e : ℕ) → SpellsPath p b e → step_number w e ≡ step_number w b + path_steps p
    path_number empty b e s = omega (arith, ap (step_number w) s.0, step_same b Empty s.1 refl)
    path_number (step p r P C) b e s =
        omega (
          arith,
          ap (step_number w) s.4,
          step_next s.1 (step_token r P) s.5 (step_step r P),
          path_number p b s.0 s.2,
          concept_number_lem C s.0 s.1 s.3,
        )
