-- A homomorphism on the objects below m extends over the objects made from them, one after another: the object of the legal
-- state that stands for the maker has a value of the attribute, and the axioms put that value in the made object's classes.
use Prim.Native.Nat.{ℕ, zero, suc, ◌+◌, ◌≤◌, ◌<◌}
use native.Mathlib.Omega.{arith}
use mathlib.Core.Path.{◌≡◌, refl, sym, ap, subst, subst₂, ◌∙◌}
use Rattle.records.specs.State.{State, Member, Related, Every, Some}
use Rattle.records.specs.Schema.{Schema, Legal}
use Rattle.records.proofs.General.CountLaws.{up_to}
use Rattle.records.proofs.General.Update.{put, put_same, put_other}
use Rattle.chase.proofs.Reflection.{Hom}

-- object d of I is in each class of object s of F
abbrev pub Keeps : State → ℕ → State → ℕ → Type 0
Keeps F s I d = (A : ℕ) → Member F A s → Member I A d

-- object k was made as a value of an attribute that its maker needs, with no other pair to objects before it
pub record Made (S : Schema) (F : State) (k : ℕ) : Type 0 where
  pub maker : ℕ
  pub attribute : ℕ
  pub before : maker < k
  pub needed : (I : State) → Legal S I → Every I λ d. Keeps F maker I d → Some I λ e. Related I attribute d e
  pub forced : (I : State) → Legal S I → Every I λ d. Keeps F maker I d → Every I λ e. Related I attribute d e → Keeps F k I e
  pub only : (P d : ℕ) → d ≤ k → Related F P d k → (d ≡ maker) × (P ≡ attribute)
  pub leaf : (P d : ℕ) → d ≤ k → Related F P k d → ⊥
  pub unnamed : (a : ℕ) → k ≡ F.names a → ⊥

pub hom_part : (D E : ℕ → Type 0) (F I : State) (h : ℕ → ℕ) → ((d : ℕ) → E d → D d) → Hom D F I h → Hom E F I h
hom_part D E F I h f H =
    record {
      inside = λ d x. H.inside d (f d x);
      members = λ A d x. H.members A d (f d x);
      pairs = λ P d e x y. H.pairs P d e (f d x) (f e y);
      names = λ a d x. H.names a d (f d x);
    }

module _ (S : Schema) (F I : State) (legal : Legal S I) where
  extend : (k : ℕ) (h : ℕ → ℕ) → Hom (λ d. d < k) F I h → (M : Made S F k)
      → (f : ℕ → ℕ) × Hom (λ d. d < suc k) F I f × ((d : ℕ) → d < k → f d ≡ h d)
  extend k h H M = (f, hom, same)
    where
      -- the maker's object has the value that is needed
      here : ℕ
      here = h M.maker

      inside : here < I.size
      inside = H.inside M.maker M.before

      keeps : Keeps F M.maker I here
      keeps = λ A. H.members A M.maker M.before

      value : Some I λ e. Related I M.attribute here e
      value = M.needed I legal here inside keeps

      f : ℕ → ℕ
      f = put k value.0 h

      same : (d : ℕ) → d < k → f d ≡ h d
      same d x = put_other k value.0 h d (omega arith)

      new : value.0 ≡ f k
      new = sym (put_same k value.0 h)

      -- the one pair to k comes from the maker
      only : (P d : ℕ) → d < k → Related F P d k → Related I P (f d) (f k)
      only P d x r =
          let o = M.only P d (omega arith) r in
          subst₂ (λ (Q e : ℕ). Related I Q e (f k)) (sym o.1) (ap h (sym o.0) ∙ sym (same d x))
          (subst (Related I M.attribute here) new value.2)

      hom : Hom (λ d. d < suc k) F I f
      hom =
          record {
            inside =
                up_to (λ d. f d < I.size) k (λ d x. subst (λ (i : ℕ). i < I.size) (sym (same d x)) (H.inside d x))
                (subst (λ (i : ℕ). i < I.size) new value.1);
            members = λ A.
                up_to (λ d. Member F A d → Member I A (f d)) k
                (λ d x m. subst (Member I A) (sym (same d x)) (H.members A d x m))
                (λ m. subst (Member I A) new (M.forced I legal here inside keeps value.0 value.1 value.2 A m));
            pairs = λ P d e x y.
                up_to (λ d. (e : ℕ) → e < suc k → Related F P d e → Related I P (f d) (f e)) k
                (λ d x.
                up_to (λ e. Related F P d e → Related I P (f d) (f e)) k
                (λ e y r. subst₂ (Related I P) (sym (same d x)) (sym (same e y)) (H.pairs P d e x y r)) (only P d x))
                (λ e y r. absurd (M.leaf P e (omega arith) r)) d x e y;
            names = λ a.
                up_to (λ d. d ≡ F.names a → f d ≡ I.names a) k (λ d x e. same d x ∙ H.names a d x e) (λ e. absurd (M.unnamed a e));
          }

  pub extend_all : (m : ℕ) (h : ℕ → ℕ) → Hom (λ d. d < m) F I h → (n : ℕ) → ((k : ℕ) → m ≤ k → k < m + n → Made S F k)
      → (f : ℕ → ℕ) × Hom (λ d. d < m + n) F I f × ((d : ℕ) → d < m → f d ≡ h d)
  extend_all m h H zero M = (h, hom_part (λ d. d < m) (λ d. d < m + zero) F I h (λ d x. omega arith) H, λ d x. refl)
  extend_all m h H (suc n) M =
      let u = extend_all m h H n (λ k x y. M k x (omega arith)) in
      let v = extend (m + n) u.0 u.1 (M (m + n) (omega arith) (omega arith)) in (
        v.0,
        hom_part (λ d. d < suc (m + n)) (λ d. d < m + suc n) F I v.0 (λ d x. omega arith) v.1,
        λ d x. v.2 d
            (omega arith) ∙ u.2 d x,
      )
