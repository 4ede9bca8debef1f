-- One fixed-point law for every closure. A round grows if it keeps what is in order (Ok) and either changes nothing or raises
-- the measure. Compositions and loops of growing rounds grow; where the whole changes nothing, no round does. Where the
-- measure is bounded, settling ends at a fixed point, and the number of rounds allowed does not matter.
use Prim.Native.Nat.{ℕ, zero, suc, ◌+◌, ◌≤◌, ◌<◌}
use native.Mathlib.Omega.{arith}
use mathlib.Core.Bool.{Bool, true, false, ◌||◌, or_assoc, or-false}
use mathlib.Core.Logic.{◌⊎◌, inl, inr, ⊎_elim}
use mathlib.Core.Path.{◌≡◌, refl, sym, ap, ◌∙◌}
use mathlib.Core.List.{List, [], ◌∷◌, ◌++◌, map}
use lib.Dec.{eqb}
use lib.ListN.{length, get_or, take}
use lib.Seq.{take-suc}
use borrow.Author.Tests.{eqb-true, eqb-false}
use Rattle.records.specs.Helpers.Loops.{each, any_of, upto, settle}
use Rattle.records.proofs.General.CountLaws.{up_to}
use Rattle.records.proofs.General.AllLaws.{All}

-- a loop over a list, entry by entry
each_append : {A X : Type 0} (run : A → X → X) (l m : List A) (x : X) → each run (l ++ m) x ≡ each run m (each run l x)
unfolding each
each_append run [] m x = refl
each_append run (a ∷ l) m x = each_append run l m (run a x)

pub each_next : {A X : Type 0} (run : A → X → X) (l : List A) (i : ℕ) (d : A) → i < length l → (x : X)
    → each run (take (suc i) l) x ≡ run (get_or l i d) (each run (take i l) x)
unfolding each
each_next run l i d h x = ap (λ m. each run m x) (take-suc l i d h) ∙ each_append run (take i l) (get_or l i d ∷ []) x

any_append : {A : Type 0} (test : A → Bool) (l m : List A) → any_of test (l ++ m) ≡ any_of test l || any_of test m
unfolding any_of
any_append test [] m = refl
any_append test (a ∷ l) m = ap (λ (b : Bool). test a || b) (any_append test l m) ∙ sym (or_assoc (test a) (any_of test l) (any_of test m))

pub any_next : {A : Type 0} (test : A → Bool) (l : List A) (i : ℕ) (d : A) → i < length l
    → any_of test (take (suc i) l) ≡ any_of test (take i l) || test (get_or l i d)
unfolding any_of
any_next test l i d h =
    ap (any_of test) (take-suc l i d h) ∙ any_append test (take i l) (get_or l i d ∷ [])
    ∙ ap (λ (b : Bool). any_of test (take i l) || b) (or-false (test (get_or l i d)))

pub any_map : {A : Type 0} (test : A → Bool) (f : ℕ → A) (l : List ℕ) → any_of test (map f l) ≡ any_of (λ w. test (f w)) l
unfolding any_of
any_map test f [] = refl
any_map test f (w ∷ l) = ap (λ (b : Bool). test (f w) || b) (any_map test f l)

pub upto_keeps : {X : Type 0} (Ok : X → Type 0) (run : ℕ → X → X) (n : ℕ) → ((i : ℕ) → i < n → (x : X) → Ok x → Ok (run i x))
    → (x : X) → Ok x → Ok (upto run n x)
unfolding upto
upto_keeps Ok run zero keep x ok = ok
upto_keeps Ok run (suc n) keep x ok = keep n (omega arith) _ (upto_keeps Ok run n (λ i h. keep i (omega arith)) x ok)

-- what round i brings about, and later rounds keep
pub upto_brings : {X : Type 0} (Z : X → Type 0) (run : ℕ → X → X) (i : ℕ) → ((x : X) → Z (run i x))
    → ((j : ℕ) (x : X) → Z x → Z (run j x))
    → (n : ℕ) → i < n → (x : X) → Z (upto run n x)
unfolding upto
upto_brings Z run i here keep zero h x = absurd (omega arith)
upto_brings Z run i here keep (suc n) h x =
    up_to (λ j. ((y : _) → Z (run j y)) → Z (run n (upto run n x))) n (λ j k f. keep n _ (upto_brings Z run j f keep n k x))
    (λ f. f _) i h here

module _ {X : Type 0} (μ : X → ℕ) (Ok : X → Type 0) where
  abbrev pub Grows : (X → X) → Type 0
  Grows f = (x : X) → Ok x → Ok (f x) × ((f x ≡ x) ⊎ (μ x < μ (f x)))

  pub grows_le : (f : X → X) → Grows f → (x : X) → Ok x → μ x ≤ μ (f x)
  grows_le f G x ok = ⊎_elim (λ e. omega (arith, ap μ e)) (λ l. omega arith) (G x ok).1

  pub still : (f : X → X) → Grows f → (x : X) → Ok x → μ (f x) ≡ μ x → f x ≡ x
  still f G x ok e = ⊎_elim (λ q. q) (λ l. absurd (omega arith)) (G x ok).1

  pub then_grows : (f g : X → X) → Grows f → Grows g → Grows (λ x. g (f x))
  then_grows f g F G x ok =
      let u = F x ok in
      let v = G (f x) u.0 in (
        v.0,
        ⊎_elim
            (λ e. ⊎_elim (λ q. inl (q ∙ e)) (λ l. inr (omega (arith, ap μ e))) v.1)
            (λ l. inr (omega (arith, grows_le g G (f x) u.0))) u.1,
      )

  pub then_fixed : (f g : X → X) → Grows f → Grows g → (x : X) → Ok x → g (f x) ≡ x → (f x ≡ x) × (g x ≡ x)
  then_fixed f g F G x ok e =
      let first : f x ≡ x = still f F x ok (omega (arith, ap μ e, grows_le f F x ok, grows_le g G (f x) (F x ok).0)) in
      (first, ap g (sym first) ∙ e)

  pub upto_grows : (run : ℕ → X → X) (n : ℕ) → ((i : ℕ) → i < n → Grows (run i)) → Grows (upto run n)
  unfolding upto
  upto_grows run zero G = λ x ok. (ok, inl refl)
  upto_grows run (suc n) G = then_grows (upto run n) (run n) (upto_grows run n λ i h. G i (omega arith)) (G n (omega arith))

  pub upto_fixed : (run : ℕ → X → X) (n : ℕ) → ((i : ℕ) → i < n → Grows (run i)) → (x : X) → Ok x → upto run n x ≡ x
      → (i : ℕ) → i < n → run i x ≡ x
  unfolding upto
  upto_fixed run zero G x ok e i h = absurd (omega arith)
  upto_fixed run (suc n) G x ok e i h =
      let less : (j : ℕ) → j < n → Grows (run j) = λ j k. G j (omega arith) in
      let k = then_fixed (upto run n) (run n) (upto_grows run n less) (G n (omega arith)) x ok e in
      up_to (λ j. run j x ≡ x) n (upto_fixed run n less x ok k.0) k.1 i h

  pub each_grows : {A : Type 0} (run : A → X → X) (l : List A) → All (λ a. Grows (run a)) l → Grows (each run l)
  unfolding each
  each_grows run [] G = λ x ok. (ok, inl refl)
  each_grows run (a ∷ l) G = then_grows (run a) (each run l) G.0 (each_grows run l G.1)

  pub each_fixed : {A : Type 0} (run : A → X → X) (l : List A) → All (λ a. Grows (run a)) l → (x : X) → Ok x → each run l x ≡ x
      → All (λ a. run a x ≡ x) l
  unfolding each
  each_fixed run [] G x ok e = tt
  each_fixed run (a ∷ l) G x ok e =
      let k = then_fixed (run a) (each run l) G.0 (each_grows run l G.1) x ok e in
      (k.0, each_fixed run l G.1 x ok k.1)

  module _ (f : X → X) (G : Grows f) where
    -- a round either changes nothing, and the loop stops, or raises the measure, and the loop goes on
    settle_cases : (Z : X → Type 0) (n : ℕ) (x : X) → Ok x → (f x ≡ x → Z (f x)) → (μ x < μ (f x) → Z (settle μ f n (f x)))
        → Z (settle μ f (suc n) x)
    unfolding settle
    settle_cases Z n x ok stop go = cases (eqb (μ (f x)) (μ x)) refl
      where
        cases : (b : Bool) → eqb (μ (f x)) (μ x) ≡ b → Z (elim b as (λ c. X) [ true ↦ f x | false ↦ settle μ f n (f x) ])
        cases true e = stop (still f G x ok (eqb-true (μ (f x)) (μ x) e))
        cases false e = go (⊎_elim (λ q. absurd (eqb-false (μ (f x)) (μ x) e (ap μ q))) (λ l. l) (G x ok).1)

    pub settle_ok : (n : ℕ) (x : X) → Ok x → Ok (settle μ f n x)
    unfolding settle
    settle_ok zero x ok = ok
    settle_ok (suc n) x ok = settle_cases Ok n x ok (λ _. (G x ok).0) (λ _. settle_ok n (f x) (G x ok).0)

    module _ (bound : ℕ) (top : (x : X) → Ok x → μ x ≤ bound) where
      fixed_after : (n : ℕ) (x : X) → Ok x → bound < n + μ x → f (settle μ f n x) ≡ settle μ f n x
      fixed_after zero x ok h = absurd (omega (arith, top x ok))
      fixed_after (suc n) x ok h =
          settle_cases (λ y. f y ≡ y) n x ok (λ e. ap f e) (λ l. fixed_after n (f x) (G x ok).0 (omega arith))

      enough : (n k : ℕ) (x : X) → Ok x → bound < n + μ x → bound < k + μ x → settle μ f n x ≡ settle μ f k x
      enough zero k x ok h j = absurd (omega (arith, top x ok))
      enough (suc n) zero x ok h j = absurd (omega (arith, top x ok))
      enough (suc n) (suc k) x ok h j =
          settle_cases (λ y. y ≡ settle μ f (suc k) x) n x ok
          (λ e. settle_cases (λ y. f x ≡ y) k x ok (λ _. refl) (λ l. absurd (omega (arith, ap μ e))))
          (λ l. settle_cases (λ y. settle μ f n (f x) ≡ y) k x ok (λ e. absurd (omega (arith, ap μ e)))
          (λ _. enough n k (f x) (G x ok).0 (omega arith) (omega arith)))

      -- more rounds than the bound end at a fixed point
      pub settle_fixed : (x : X) → Ok x → f (settle μ f (suc bound) x) ≡ settle μ f (suc bound) x
      settle_fixed x ok = fixed_after (suc bound) x ok (omega arith)

      -- a round changes nothing of what the loop ends at, and the loop ends where the measure stands still
      pub settle_next : (x : X) → Ok x → settle μ f (suc bound) (f x) ≡ settle μ f (suc bound) x
      settle_next x ok =
          settle_cases (λ y. settle μ f (suc bound) (f x) ≡ y) bound x ok
          (λ e. settle_cases (λ y. y ≡ f x) bound (f x) (G x ok).0 (λ q. q) (λ l. absurd (omega (arith, ap μ (ap f e)))))
          (λ l. enough (suc bound) bound (f x) (G x ok).0 (omega arith) (omega arith))

      pub settle_stop : (x : X) → Ok x → μ (f x) ≡ μ x → settle μ f (suc bound) x ≡ x
      settle_stop x ok e =
          settle_cases (λ y. y ≡ x) bound x ok (λ q. q) (λ l. absurd (omega arith))
