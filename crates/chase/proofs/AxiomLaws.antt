-- What the loops over the axioms collect, axiom by axiom: a class is in the set exactly if some axiom puts it there (is, of),
-- and every class that they collect is declared (small).
use Prim.Native.Nat.{ℕ, ◌^◌, ◌<◌}
use mathlib.Core.Bool.{Bool, true, false, So, cond, ◌&&◌}
use mathlib.Core.Logic.{◌⊎◌, inl, inr, ⊎_elim}
use mathlib.Core.Path.{◌≡◌, refl, sym, ap₂, subst}
use lib.Dec.{eqb}
use lib.Bits.{bit_or, or_lt}
use lib.Pow.{pow_pos}
use borrow.Author.Tests.{eqb-true, eq-eqb}
use Rattle.records.specs.declared.schema.Axiom.{Axiom}
use Rattle.records.specs.declared.schema.Axiom.TheVariants.{Subclass, Typing, Necessary, Single, Relates}
use Rattle.records.specs.Schema.{Schema}
use Rattle.records.specs.Helpers.Declared.{DeclaredAxiom}
use Rattle.chase.specs.ClassSet.{place, meets, has}
use Rattle.chase.specs.Axioms.{only, domain_by, needs_by, single_by, values_by, collect, domain, needs, is_single, values}
use Rattle.records.proofs.General.BoolLaws.{and_both, and_parts}
use Rattle.records.proofs.General.LoopLaws.{upto_keeps, upto_brings}
use Rattle.chase.proofs.ClassSetLaws.{has_left, has_right, has_split, has_none, place_has, place_below, place_only, meets_of, meets_some}

pub only_is : (b : Bool) (c A : ℕ) → So (has (only b c) A) → So b × So (has c A)
only_is true c A h = (refl, h)
only_is false c A h = absurd (has_none A h)

pub only_of : (b : Bool) (c A : ℕ) → So b → So (has c A) → So (has (only b c) A)
only_of b c A h k = subst (λ (t : Bool). So (has (cond t c 0) A)) (sym h) k

pub only_place : (b : Bool) (A B : ℕ) → So (has (only b (place A)) B) → So b × (A ≡ B)
only_place b A B h = let k = only_is b (place A) B h in (k.0, place_only A B k.1)

pub placed : (b : Bool) (A : ℕ) → So b → So (has (only b (place A)) A)
placed b A h = only_of b (place A) A h (place_has A)

pub only_below : (b : Bool) (c n : ℕ) → c < 2 ^ n → only b c < 2 ^ n
only_below true c n h = h
only_below false c n h = pow_pos n

module _ (S : Schema) (f : Axiom → ℕ) where
  collect_is : (A : ℕ) → So (has (collect S f) A) → (i : ℕ) × (i < S.axioms) × So (has (f (S.axiom_at i)) A)
  unfolding collect
  collect_is A h =
      upto_keeps (λ c. So (has c A) → (i : ℕ) × (i < S.axioms) × So (has (f (S.axiom_at i)) A))
      (λ i c. bit_or c (f (S.axiom_at i))) S.axioms
      (λ i l c rest x. ⊎_elim rest (λ y. (i, l, y)) (has_split c (f (S.axiom_at i)) A x)) 0 (λ x. absurd (has_none A x)) h

  collect_of : (i : ℕ) (x : Axiom) (A : ℕ) → i < S.axioms → S.axiom_at i ≡ x → So (has (f x) A) → So (has (collect S f) A)
  unfolding collect
  collect_of i x A h e y =
      upto_brings (λ c. So (has c A)) (λ i c. bit_or c (f (S.axiom_at i))) i
      (λ c. has_right c (f (S.axiom_at i)) A (subst (λ (z : Axiom). So (has (f z) A)) (sym e) y))
      (λ j c. has_left c (f (S.axiom_at j)) A) S.axioms h 0

  collect_below : (n : ℕ) → ((i : ℕ) → i < S.axioms → f (S.axiom_at i) < 2 ^ n) → collect S f < 2 ^ n
  unfolding collect
  collect_below n small =
      upto_keeps (λ c. c < 2 ^ n) (λ i c. bit_or c (f (S.axiom_at i))) S.axioms
      (λ i l c h. or_lt n c (f (S.axiom_at i)) h (small i l)) 0
      (pow_pos n)

-- One axiom, from what it adds.
-- the part of a word that names the attribute, and the class
named : (R P A B : ℕ) → So (has (only (eqb R P) (place A)) B) → (R ≡ P) × (A ≡ B)
named R P A B h = let k = only_place (eqb R P) A B h in (eqb-true R P k.0, k.1)

domain_by_lem : (P A : ℕ) (x : Axiom) → So (has (domain_by P x) A) → (B : ℕ) × (x ≡ Relates P A B)
domain_by_lem P A (Subclass D E) h = absurd (has_none A h)
domain_by_lem P A (Typing D R E) h = absurd (has_none A h)
domain_by_lem P A (Necessary D R) h = absurd (has_none A h)
domain_by_lem P A (Single D R) h = absurd (has_none A h)
domain_by_lem P A (Relates R D E) h = let k = named R P D A h in (E, ap₂ (λ (Q B : ℕ). Relates Q B E) k.0 k.1)

needs_by_lem : (P A : ℕ) (x : Axiom) → So (has (needs_by P x) A) → x ≡ Necessary A P
needs_by_lem P A (Subclass D E) h = absurd (has_none A h)
needs_by_lem P A (Typing D R E) h = absurd (has_none A h)
needs_by_lem P A (Necessary D R) h = let k = named R P D A h in ap₂ Necessary k.1 k.0
needs_by_lem P A (Single D R) h = absurd (has_none A h)
needs_by_lem P A (Relates R D E) h = absurd (has_none A h)

single_by_lem : (P A : ℕ) (x : Axiom) → So (has (single_by P x) A) → x ≡ Single A P
single_by_lem P A (Subclass D E) h = absurd (has_none A h)
single_by_lem P A (Typing D R E) h = absurd (has_none A h)
single_by_lem P A (Necessary D R) h = absurd (has_none A h)
single_by_lem P A (Single D R) h = let k = named R P D A h in ap₂ Single k.1 k.0
single_by_lem P A (Relates R D E) h = absurd (has_none A h)

values_by_lem : (c P B : ℕ) (x : Axiom) → So (has (values_by c P x) B)
    → ((A : ℕ) × So (has c A) × (x ≡ Typing A P B)) ⊎ ((A : ℕ) × (x ≡ Relates P A B))
values_by_lem c P B (Subclass D E) h = absurd (has_none B h)
values_by_lem c P B (Typing D R E) h =
    let k = only_place (eqb R P && has c D) E B h in
    let l = and_parts (eqb R P) (has c D) k.0 in
    inl (D, l.1, ap₂ (λ (Q C : ℕ). Typing D Q C) (eqb-true R P l.0) k.1)
values_by_lem c P B (Necessary D R) h = absurd (has_none B h)
values_by_lem c P B (Single D R) h = absurd (has_none B h)
values_by_lem c P B (Relates R D E) h = let k = named R P E B h in inr (D, ap₂ (λ (Q C : ℕ). Relates Q D C) k.0 k.1)

-- The sets, from the axioms of the schema and back.
module _ (S : Schema) where
  -- axiom x is of the schema
  abbrev pub Of : Axiom → Type 0
  Of x = (i : ℕ) × (i < S.axioms) × (S.axiom_at i ≡ x)

  pub domain_is : (P A : ℕ) → So (has (domain S P) A) → (B : ℕ) × Of (Relates P A B)
  domain_is P A h =
      let k = collect_is S (domain_by P) A h in
      let x = domain_by_lem P A (S.axiom_at k.0) k.2 in
      (x.0, (k.0, k.1, x.1))

  pub domain_of : (P A B : ℕ) → Of (Relates P A B) → So (has (domain S P) A)
  domain_of P A B x = collect_of S (domain_by P) x.0 (Relates P A B) A x.1 x.2 (placed (eqb P P) A (eq-eqb P P refl))

  -- a set that meets what axioms of one kind add
  meets_is : (f : Axiom → ℕ) (kind : ℕ → Axiom) → ((A : ℕ) (x : Axiom) → So (has (f x) A) → x ≡ kind A) → (c : ℕ)
      → So (meets c (collect S f))
      → (A : ℕ) × So (has c A) × Of (kind A)
  meets_is f kind by c h =
      let m = meets_some c (collect S f) h in
      let k = collect_is S f m.0 m.2 in
      (m.0, m.1, (k.0, k.1, by m.0 (S.axiom_at k.0) k.2))

  of_meets : (f : Axiom → ℕ) (x : Axiom) (c A : ℕ) → So (has (f x) A) → Of x → So (has c A) → So (meets c (collect S f))
  of_meets f x c A h o a = meets_of c (collect S f) A a (collect_of S f o.0 x A o.1 o.2 h)

  pub needs_is : (c P : ℕ) → So (needs S c P) → (A : ℕ) × So (has c A) × Of (Necessary A P)
  unfolding needs
  needs_is c P = meets_is (needs_by P) (λ A. Necessary A P) (needs_by_lem P) c

  pub needs_of : (c A P : ℕ) → Of (Necessary A P) → So (has c A) → So (needs S c P)
  unfolding needs
  needs_of c A P = of_meets (needs_by P) (Necessary A P) c A (placed (eqb P P) A (eq-eqb P P refl))

  pub single_is : (c P : ℕ) → So (is_single S c P) → (A : ℕ) × So (has c A) × Of (Single A P)
  unfolding is_single
  single_is c P = meets_is (single_by P) (λ A. Single A P) (single_by_lem P) c

  pub single_of : (c A P : ℕ) → Of (Single A P) → So (has c A) → So (is_single S c P)
  unfolding is_single
  single_of c A P = of_meets (single_by P) (Single A P) c A (placed (eqb P P) A (eq-eqb P P refl))

  pub values_is : (c P B : ℕ) → So (has (values S c P) B) → ((A : ℕ) × So (has c A) × Of (Typing A P B)) ⊎ ((A : ℕ) × Of (Relates P A B))
  values_is c P B h =
      let k = collect_is S (values_by c P) B h in
      ⊎_elim (λ x. inl (x.0, x.1, (k.0, k.1, x.2))) (λ x. inr (x.0, (k.0, k.1, x.1)))
      (values_by_lem c P B (S.axiom_at k.0) k.2)

  pub typing_of : (c A P B : ℕ) → Of (Typing A P B) → So (has c A) → So (has (values S c P) B)
  typing_of c A P B x a =
      collect_of S (values_by c P) x.0 (Typing A P B) B x.1 x.2
      (placed (eqb P P && has c A) B (and_both (eqb P P) (has c A) (eq-eqb P P refl) a))

  pub range_of : (c P A B : ℕ) → Of (Relates P A B) → So (has (values S c P) B)
  range_of c P A B x = collect_of S (values_by c P) x.0 (Relates P A B) B x.1 x.2 (placed (eqb P P) B (eq-eqb P P refl))

-- every class of the set is declared
abbrev pub Small : Schema → ℕ → Type 0
Small S c = c < 2 ^ S.signature.classes

pub none_small : (S : Schema) → Small S 0
none_small S = pow_pos S.signature.classes

pub place_small : (S : Schema) (b : Bool) (A : ℕ) → A < S.signature.classes → Small S (only b (place A))
place_small S b A h = only_below b (place A) S.signature.classes (place_below S.signature.classes A h)

module _ (S : Schema) where
  domain_small_by : (x : Axiom) → DeclaredAxiom S.signature x → (P : ℕ) → Small S (domain_by P x)
  domain_small_by (Subclass B C) h P = none_small S
  domain_small_by (Typing B R C) h P = none_small S
  domain_small_by (Necessary B R) h P = none_small S
  domain_small_by (Single B R) h P = none_small S
  domain_small_by (Relates R B C) h P = place_small S (eqb R P) B h.1

  values_small_by : (x : Axiom) → DeclaredAxiom S.signature x → (c P : ℕ) → Small S (values_by c P x)
  values_small_by (Subclass B C) h c P = none_small S
  values_small_by (Typing B R C) h c P = place_small S (eqb R P && has c B) C h.2
  values_small_by (Necessary B R) h c P = none_small S
  values_small_by (Single B R) h c P = none_small S
  values_small_by (Relates R B C) h c P = place_small S (eqb R P) C h.2

module _ (S : Schema) (declared : (i : ℕ) → i < S.axioms → DeclaredAxiom S.signature (S.axiom_at i)) where
  pub domain_small : (P : ℕ) → Small S (domain S P)
  domain_small P = collect_below S (domain_by P) S.signature.classes (λ i h. domain_small_by S (S.axiom_at i) (declared i h) P)

  pub values_small : (c P : ℕ) → Small S (values S c P)
  values_small c P = collect_below S (values_by c P) S.signature.classes (λ i h. values_small_by S (S.axiom_at i) (declared i h) c P)

  pub declared_as : (x : Axiom) → Of S x → DeclaredAxiom S.signature x
  declared_as x o = subst (DeclaredAxiom S.signature) o.2 (declared o.0 o.1)
