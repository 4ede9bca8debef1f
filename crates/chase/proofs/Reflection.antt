-- Reflection: what a view without marks finds in a state K, it finds in every state I that the part of K which the view walks
-- over maps to. The part D is closed under the view's steps (Covered), and h keeps every fact of it (Hom).
use Prim.Native.Nat.{ℕ, ◌<◌}
use mathlib.Core.Path.{◌≡◌, ap, subst}
use Rattle.records.specs.State.{State, Member, Related}
use Rattle.records.specs.Concept.{Direction, forward, backward, Concept, class, everything, constant, both, reached, common, mark, Path, empty, step}
use Rattle.records.specs.Semantics.{Steps, In, Leads}
use Rattle.records.specs.Choice.{Unmarked, UnmarkedPath}

-- h maps the objects of D in K to objects of I, and keeps what holds of them
pub record Hom (D : ℕ → Type 0) (K I : State) (h : ℕ → ℕ) : Type 0 where
  pub inside : (d : ℕ) → D d → h d < I.size
  pub members : (A d : ℕ) → D d → Member K A d → Member I A (h d)
  pub pairs : (P d e : ℕ) → D d → D e → Related K P d e → Related I P (h d) (h e)
  pub names : (a d : ℕ) → D d → d ≡ K.names a → h d ≡ I.names a

-- from s the steps of the concept, and of the path, never leave D
module _ (D : ℕ → Type 0) (K : State) where
  abbrev mutual
    pub Covered : Concept → ℕ → Type 0
    Covered (class A) s = Unit {0}
    Covered everything s = Unit {0}
    Covered (constant a) s = Unit {0}
    Covered (both C E) s = Covered C s × Covered E s
    Covered (reached p) s = Along p s
    Covered (common p q) s = Along p s × Along q s
    Covered (mark k) s = Unit {0}

    pub Along : Path → ℕ → Type 0
    Along empty s = Unit {0}
    Along (step p r P C) s =
        Along p s × ((t v : ℕ) → D t → Leads K p s t → v < K.size → Steps K r P t v → D v × Covered C v)

module _ {D : ℕ → Type 0} {K I : State} {h : ℕ → ℕ} (H : Hom D K I h) where
  steps_kept : (r : Direction) (P t v : ℕ) → D t → D v → Steps K r P t v → Steps I r P (h t) (h v)
  steps_kept forward P t v dt dv x = H.pairs P t v dt dv x
  steps_kept backward P t v dt dv x = H.pairs P v t dv dt x

  mutual
    pub in_kept : (C : Concept) (s : ℕ) → Unmarked C → D s → Covered D K C s → In K C s → In I C (h s)
    in_kept (class A) s u ds c x = H.members A s ds x
    in_kept everything s u ds c x = tt
    in_kept (constant a) s u ds c x = H.names a s ds x
    in_kept (both C E) s u ds c x = (in_kept C s u.0 ds c.0 x.0, in_kept E s u.1 ds c.1 x.1)
    in_kept (reached p) s u ds c x =
        let k = leads_kept p s x.0 u ds x.1 c x.2 in
        (h x.0, H.inside x.0 k.0, k.1)
    in_kept (common p q) s u ds c x =
        let k = leads_kept p s x.0 u.0 ds x.1 c.0 x.2.0 in
        let l = leads_kept q s x.0 u.1 ds x.1 c.1 x.2.1 in
        (h x.0, H.inside x.0 k.0, (k.1, l.1))
    in_kept (mark k) s u ds c x = absurd u

    leads_kept : (p : Path) (s e : ℕ) → UnmarkedPath p → D s → e < K.size → Along D K p s → Leads K p s e → D e × Leads I p (h s) (h e)
    leads_kept empty s e u ds b c x = (subst D x ds, ap h x)
    leads_kept (step p r P C) s e u ds b c x =
        let k = leads_kept p s x.0 u.0 ds x.1 c.0 x.2.0 in
        let l = c.1 x.0 e k.0 x.2.0 b x.2.1 in (
          l.0,
          (
            h x.0,
            H.inside x.0 k.0,
            (k.1, steps_kept r P x.0 e k.0 l.0 x.2.1, in_kept C e u.1 l.0 l.1 x.2.2),
          ),
        )
