-- Forests that grow. A new object is made only as a value that its maker lacks, with the classes that are forced on it (Grown).
-- So what an object has is never changed: its classes, its maker, and its made value where it lacks none.
use Prim.Native.Nat.{ℕ, zero, suc, ◌≤◌, ◌<◌}
use native.Mathlib.Omega.{arith}
use native.Mathlib.Decide.{dec_lt}
use mathlib.Core.Bool.{Bool, false, So, cond, not, ◌&&◌, ◌||◌, false≢true, and-false}
use mathlib.Core.Logic.{◌⊎◌, inl, inr, ⊎_elim}
use mathlib.Core.Path.{◌≡◌, refl, sym, ap, ap₂, subst, subst₂, ◌∙◌}
use lib.Dec.{eqb, ltb}
use borrow.Author.Tests.{eqb-true, eq-eqb, ne_eqb, lt-ltb, ltb-false, not-true}
use Rattle.records.specs.Schema.{Schema}
use Rattle.chase.specs.Axioms.{needs, image}
use Rattle.chase.specs.Ground.{Ground}
use Rattle.chase.specs.Forest.{Forest, bare, grow, size, kid, parent, asks, classes_of, lacks, sprout}
use Rattle.records.proofs.General.CountLaws.{up_to}
use Rattle.records.proofs.General.BoolLaws.{cond_elim, and_both, and_parts, or_right, or_false}

-- the ground's objects are objects, and so is a made value
pub ground_size : (G : Ground) (T : Forest) → G.objects ≤ size G T
unfolding size
ground_size G bare = omega arith
ground_size G (grow T m R c) = omega (arith, ground_size G T)

pub kid_bound : (G : Ground) (T : Forest) (P d : ℕ) → kid G T P d ≤ size G T
unfolding kid size
kid_bound G bare P d = omega arith
kid_bound G (grow T m R c) P d =
    cond_elim (λ v. v ≤ suc (size G T)) (eqb m d && eqb R P) (λ _. omega arith) (λ _. omega (arith, kid_bound G T P d))

module _ (S : Schema) (G : Ground) where
  -- U has grown from T
  pub data Grown (T : Forest) : Forest → Type 0 where
    same : Grown T T
    more : {U : Forest} (d P : ℕ) → Grown T U → d < size G U → So (lacks S G U P d) → Grown T (sprout S G P d U)

  pub grown_trans : {T U X : Forest} → Grown T U → Grown U X → Grown T X
  grown_trans g same = g
  grown_trans g (more d P h l n) = more d P (grown_trans g h) l n

  pub grown_size : {T U : Forest} → Grown T U → size G T ≤ size G U
  unfolding size
  grown_size same = omega arith
  grown_size (more d P h l n) = omega (arith, grown_size h)

  pub grown_classes : {T U : Forest} → Grown T U → (d : ℕ) → d < size G T → classes_of S G U d ≡ classes_of S G T d
  unfolding classes_of
  grown_classes same d k = refl
  grown_classes (more {U = U} e P h l n) d k =
      ap (λ (b : Bool). cond b (image S (classes_of S G U e) P) (classes_of S G U d)) (ne_eqb d (size G U) (omega (arith, grown_size h)))
      ∙ grown_classes h d k

  pub grown_parent : {T U : Forest} → Grown T U → (P e : ℕ) → e < size G T → parent G U P e ≡ parent G T P e
  unfolding parent
  grown_parent same P e k = refl
  grown_parent (more {U = U} m R h l n) P e k =
      ap (λ (b : Bool). cond b (cond (eqb R P) (suc m) zero) (parent G U P e)) (ne_eqb e (size G U) (omega (arith, grown_size h)))
      ∙ grown_parent h P e k

  pub lacks_parts : (T : Forest) (P d : ℕ) → So (lacks S G T P d)
      → So (needs S (classes_of S G T d) P) × (asks G P d ≡ false) × (kid G T P d ≡ zero)
  unfolding lacks
  lacks_parts T P d h =
      let k = and_parts (needs S (classes_of S G T d) P) (not (asks G P d || ltb 0 (kid G T P d))) h in
      let l = or_false (asks G P d) (ltb 0 (kid G T P d)) (not-true (asks G P d || ltb 0 (kid G T P d)) k.1) in
      (k.0, l.0, omega (arith, ltb-false 0 (kid G T P d) l.1))

  pub kid_lacks : (T : Forest) (P d e : ℕ) → kid G T P d ≡ suc e → lacks S G T P d ≡ false
  unfolding lacks
  kid_lacks T P d e q =
      ap (λ (b : Bool). needs S (classes_of S G T d) P && not b)
      (or_right (asks G P d) (ltb 0 (kid G T P d)) (lt-ltb 0 (kid G T P d) (omega arith)))
      ∙ and-false (needs S (classes_of S G T d) P)

  -- d lacks in U what it lacks in T, if its made value is the same
  same_lacks : {T U : Forest} → Grown T U → (P d : ℕ) → d < size G T → kid G U P d ≡ kid G T P d → lacks S G U P d ≡ lacks S G T P d
  unfolding lacks
  same_lacks h P d k e = ap₂ (λ (c v : ℕ). needs S c P && not (asks G P d || ltb 0 v)) (grown_classes h d k) e

  pub grown_kid : {T U : Forest} → Grown T U → (P d : ℕ) → d < size G T → lacks S G T P d ≡ false → kid G U P d ≡ kid G T P d
  unfolding kid
  grown_kid same P d k n = refl
  grown_kid {T} (more {U = U} m R h l x) P d k n =
      let rest = grown_kid h P d k n in
      cond_elim (λ v. v ≡ kid G T P d) (eqb m d && eqb R P)
      (λ b.
      let q = and_parts (eqb m d) (eqb R P) b in
      let y : So (lacks S G U P d) = subst₂ (λ (Q e : ℕ). So (lacks S G U Q e)) (eqb-true R P q.1) (eqb-true m d q.0) x in
      absurd (false≢true (sym n ∙ sym (same_lacks h P d k rest) ∙ y)))
      (λ _. rest)

  pub grown_lacks : {T U : Forest} → Grown T U → (P d : ℕ) → d < size G T → lacks S G T P d ≡ false → lacks S G U P d ≡ false
  grown_lacks h P d k n = same_lacks h P d k (grown_kid h P d k n) ∙ n

  -- a made object: its maker, and what it is to its maker
  pub record Child (T : Forest) (k : ℕ) : Type 0 where
    pub maker : ℕ
    pub attribute : ℕ
    pub before : maker < k
    pub value : kid G T attribute maker ≡ suc k
    pub only : (P d : ℕ) → kid G T P d ≡ suc k → (d ≡ maker) × (P ≡ attribute)
    pub parents : (P : ℕ) → parent G T P k ≡ cond (eqb attribute P) (suc maker) zero
    pub classes : classes_of S G T k ≡ image S (classes_of S G T maker) attribute
    pub needed : So (needs S (classes_of S G T maker) attribute)
    pub unasked : asks G attribute maker ≡ false

  pub kid_new : (U : Forest) (m R c : ℕ) → kid G (grow U m R c) R m ≡ suc (size G U)
  unfolding kid
  kid_new U m R c =
      ap (λ (b : Bool). cond b (suc (size G U)) (kid G U R m)) (and_both (eqb m m) (eqb R R) (eq-eqb m m refl) (eq-eqb R R refl))

  -- a made value is the newest object, or one before
  kid_cases : (U : Forest) (m R c P d e : ℕ) → kid G (grow U m R c) P d ≡ suc e
      → ((d ≡ m) × (P ≡ R) × (e ≡ size G U)) ⊎ (kid G U P d ≡ suc e)
  unfolding kid
  kid_cases U m R c P d e =
      cond_elim (λ v. v ≡ suc e → ((d ≡ m) × (P ≡ R) × (e ≡ size G U)) ⊎ (kid G U P d ≡ suc e)) (eqb m d && eqb R P)
      (λ b q.
      let k = and_parts (eqb m d) (eqb R P) b in
      inl (sym (eqb-true m d k.0), sym (eqb-true R P k.1), omega arith))
      (λ _ q. inr q)

  -- made values are made objects
  pub kid_inside : {T : Forest} → Grown bare T → (P d e : ℕ) → kid G T P d ≡ suc e → (G.objects ≤ e) × (e < size G T)
  unfolding kid size
  kid_inside same P d e q = absurd (omega arith)
  kid_inside (more {U = U} m R h l x) P d e q =
      ⊎_elim (λ k. (omega (arith, k.2, grown_size h), omega (arith, k.2)))
      (λ k. let r = kid_inside h P d e k in (r.0, omega (arith, r.1)))
      (kid_cases U m R (image S (classes_of S G U m) R) P d e q)

  module _ (U : Forest) (m R : ℕ) (valid : Grown bare U) (l : m < size G U) (x : So (lacks S G U R m)) where
    step : Grown U (sprout S G R m U)
    step = more m R same l x

    newest : Child (sprout S G R m U) (size G U)
    unfolding parent classes_of
    newest =
        record {
          maker = m;
          attribute = R;
          before = l;
          value = kid_new U m R (image S (classes_of S G U m) R);
          only = λ P d q. ⊎_elim (λ k. (k.0, k.1)) (λ k. absurd (omega (arith, kid_inside valid P d (size G U) k)))
              (kid_cases U m R (image S (classes_of S G U m) R) P d (size G U) q);
          parents = λ P. ap (λ (b : Bool). cond b (cond (eqb R P) (suc m) zero) (parent G U P (size G U)))
              (eq-eqb (size G U) (size G U) refl);
          classes =
              ap (λ (b : Bool). cond b (image S (classes_of S G U m) R) (classes_of S G U (size G U))) (eq-eqb (size G U) (size G U) refl)
              ∙ ap (λ (c : ℕ). image S c R) (sym (grown_classes step m l));
          needed = subst (λ (c : ℕ). So (needs S c R)) (sym (grown_classes step m l)) (lacks_parts U R m x).0;
          unasked = (lacks_parts U R m x).1;
        }

    older : (k : ℕ) → k < size G U → Child U k → Child (sprout S G R m U) k
    older k h c =
        let mh : c.maker < size G U = omega (arith, c.before) in
        record {
          maker = c.maker;
          attribute = c.attribute;
          before = c.before;
          value = grown_kid step c.attribute c.maker mh (kid_lacks U c.attribute c.maker k c.value) ∙ c.value;
          only = λ P d q. ⊎_elim (λ e. absurd (omega (arith, e.2))) (c.only P d)
              (kid_cases U m R (image S (classes_of S G U m) R) P d k q);
          parents = λ P. grown_parent step P k h ∙ c.parents P;
          classes = grown_classes step k h ∙ c.classes ∙ ap (λ (d : ℕ). image S d c.attribute)
              (sym (grown_classes step c.maker mh));
          needed = subst (λ (d : ℕ). So (needs S d c.attribute)) (sym (grown_classes step c.maker mh)) c.needed;
          unasked = c.unasked;
        }

  pub child : {T : Forest} → Grown bare T → (k : ℕ) → G.objects ≤ k → k < size G T → Child T k
  unfolding size
  child same k a b = absurd (omega arith)
  child (more {U = U} m R h l x) k a b =
      up_to (λ j. G.objects ≤ j → Child (sprout S G R m U) j) (size G U)
      (λ j c d. older U m R h l x j c (child h j d c)) (λ _. newest U m R h l x) k b a

  pub kid_before : {T : Forest} → Grown bare T → (P d e : ℕ) → kid G T P d ≡ suc e → d < e
  kid_before g P d e q =
      let i = kid_inside g P d e q in
      let c = child g e i.0 i.1 in
      omega (arith, (c.only P d q).0, c.before)

  -- the maker of a made object, as its parent
  pub parent_kid : {T : Forest} → Grown bare T → (P k d : ℕ) → k < size G T → parent G T P k ≡ suc d → (d < k) × (kid G T P d ≡ suc k)
  unfolding size parent
  parent_kid {T} g P k d h q =
      elim (dec_lt k G.objects) [
        | yes y ↦ absurd (omega (arith, grown_parent g P k y))
        | no n ↦
            let c = child g k (omega arith) h in
            cond_elim (λ v. v ≡ suc d → (d < k) × (kid G T P d ≡ suc k)) (eqb c.attribute P)
            (λ b e.
            let o : c.maker ≡ d = omega arith in (
              omega (arith, c.before),
              subst₂ (λ (Q i : ℕ). kid G T Q i ≡ suc k) (eqb-true c.attribute P b) o c.value,
            ))
            (λ b e. absurd (omega arith)) (sym (c.parents P) ∙ q)
      ]

  pub kid_parent : {T : Forest} → Grown bare T → (P k d : ℕ) → kid G T P d ≡ suc k → parent G T P k ≡ suc d
  kid_parent {T} g P k d q =
      let i = kid_inside g P d k q in
      let c = child g k i.0 i.1 in
      let o = c.only P d q in
      c.parents P ∙ ap (λ (b : Bool). cond b (suc c.maker) zero) (eq-eqb c.attribute P (sym o.1)) ∙ ap suc (sym o.0)
