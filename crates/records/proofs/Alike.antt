-- Two states that agree on their objects, on what is declared and on the allowed marks: a concept selects the same objects in
-- both, one is legal if the other is, and they have the same counterexamples. So a record need only say that much of a state.
use Prim.Native.Nat.{ℕ, ◌<◌}
use mathlib.Core.Bool.{So}
use mathlib.Core.Logic.Iff
use mathlib.Core.Logic.{◌↔◌}
use mathlib.Core.Path.{◌≡◌, sym, subst, ◌∙◌}
use Rattle.records.specs.declared.schema.Axiom.{Axiom}
use Rattle.records.specs.declared.schema.Axiom.TheVariants.{Subclass, Typing, Necessary, Single, Relates}
use Rattle.records.specs.declared.schema.Signature.{Signature}
use Rattle.records.specs.State.{State, Member, Related}
use Rattle.records.proofs.NamesLaws.{repeats_none}
use native.Mathlib.Omega.{arith}
use Rattle.records.specs.Schema.{Schema, Holds, Legal}
use Rattle.records.specs.Concept.{Direction, forward, backward, Concept, class, everything, constant, both, reached, common, mark, Path, empty, step}
use Rattle.records.specs.Semantics.{Steps, In, Leads}
use Rattle.records.specs.Subsumption.{Counterexample}
use Rattle.records.specs.Marks.{allowing, allows}
use Rattle.records.specs.Helpers.Declared.{DeclaredAxiom, Declared, DeclaredPath}

pub record Alike (s : Signature) (I J : State) : Type 0 where
  pub size : I.size ≡ J.size
  pub members : (A d : ℕ) → A < s.classes → d < I.size → Member I A d ↔ Member J A d
  pub pairs : (P d e : ℕ) → P < s.attributes → d < I.size → e < I.size → Related I P d e ↔ Related J P d e
  pub names : (a : ℕ) → a < s.constants → I.names a ≡ J.names a
  pub marks : (k : ℕ) → So (allows s k) → I.marks k ≡ J.marks k

module _ (s : Signature) (I J : State) (same : Alike s I J) where
  to : (d : ℕ) → d < I.size → d < J.size
  to d h = subst (λ (n : ℕ). d < n) same.size h

  back : (d : ℕ) → d < J.size → d < I.size
  back d h = subst (λ (n : ℕ). d < n) (sym same.size) h

  steps_alike : (r : Direction) (P d e : ℕ) → P < s.attributes → d < I.size → e < I.size → Steps I r P d e → Steps J r P d e
  steps_alike forward P d e p h k x = (same.pairs P d e p h k).0 x
  steps_alike backward P d e p h k x = (same.pairs P e d p k h).0 x

  mutual
    pub in_alike : (C : Concept) (d : ℕ) → Declared s C → d < I.size → In I C d → In J C d
    in_alike (class A) d c h x = (same.members A d c h).0 x
    in_alike everything d c h x = tt
    in_alike (constant a) d c h x = x ∙ same.names a c
    in_alike (both C D) d c h x = (in_alike C d c.0 h x.0, in_alike D d c.1 h x.1)
    in_alike (reached p) d c h x = (x.0, to x.0 x.1, leads_alike p d x.0 c h x.1 x.2)
    in_alike (common p q) d c h x =
        (x.0, to x.0 x.1, (leads_alike p d x.0 c.0 h x.1 x.2.0, leads_alike q d x.0 c.1 h x.1 x.2.1))
    in_alike (mark k) d c h x = x ∙ same.marks k c

    leads_alike : (p : Path) (d e : ℕ) → DeclaredPath s p → d < I.size → e < I.size → Leads I p d e → Leads J p d e
    leads_alike empty d e c h k x = x
    leads_alike (step p r P C) d e c h k x = (
      x.0,
      to x.0 x.1,
      (
        leads_alike p d x.0 c.0 h x.1 x.2.0,
        steps_alike r P x.0 e c.1 x.1 k x.2.1,
        in_alike C e c.2 k
            x.2.2,
      ),
    )

  holds_alike : (x : Axiom) → DeclaredAxiom s x → Holds I x → Holds J x
  holds_alike (Subclass A B) c h = λ d k a. let i = back d k in (same.members B d c.1 i).0 (h d i ((same.members A d c.0 i).1 a))
  holds_alike (Typing A P B) c h = λ d k a e l r.
      let i = back d k in
      let j = back e l in
      (same.members B e c.2 j).0 (h d i ((same.members A d c.0 i).1 a) e j ((same.pairs P d e c.1 i j).1 r))
  holds_alike (Necessary A P) c h = λ d k a.
      let i = back d k in
      let v = h d i ((same.members A d c.0 i).1 a) in
      (v.0, to v.0 v.1, (same.pairs P d v.0 c.1 i v.1).0 v.2)
  holds_alike (Single A P) c h = λ d k a e l r f m q.
      let i = back d k in
      let j = back e l in
      let n = back f m in
      h d i ((same.members A d c.0 i).1 a) e j ((same.pairs P d e c.1 i j).1 r) f n ((same.pairs P d f c.1 i n).1 q)
  holds_alike (Relates P A B) c h = λ d k e l r.
      let i = back d k in
      let j = back e l in
      let v = h d i e j ((same.pairs P d e c.0 i j).1 r) in
      ((same.members A d c.1 i).0 v.0, (same.members B e c.2 j).0 v.1)

-- what an axiom names does not depend on the marks
axiom_with : (s : Signature) (marks : ℕ) (x : Axiom) → DeclaredAxiom s x → DeclaredAxiom (allowing marks s) x
axiom_with s m (Subclass A B) c = c
axiom_with s m (Typing A P B) c = c
axiom_with s m (Necessary A P) c = c
axiom_with s m (Single A P) c = c
axiom_with s m (Relates P A B) c = c

pub legal_alike : (S : Schema) (marks : ℕ) (I J : State) → Alike (allowing marks S.signature) I J
    → ((i : ℕ) → i < S.axioms → DeclaredAxiom S.signature (S.axiom_at i)) → Legal S I → Legal S J
legal_alike S marks I J same declared legal =
    record {
      names =
          record {
            inside = λ a h. to (allowing marks S.signature) I J same (J.names a)
                (subst (λ (d : ℕ). d < I.size) (same.names a h) (legal.names.inside a h));
            apart = λ a h.
                repeats_none S.signature J.names I.names a (λ b l q. same.names b (omega arith) ∙ q ∙ sym (same.names a h)) (legal.names.apart a h);
          };
      holds = λ i h. holds_alike (allowing marks S.signature) I J same (S.axiom_at i) (axiom_with S.signature marks (S.axiom_at i) (declared i h)) (legal.holds i h);
    }

pub alike_sym : (s : Signature) (I J : State) → Alike s I J → Alike s J I
alike_sym s I J same =
    record {
      size = sym same.size;
      members = λ A d c h. Iff.symm (same.members A d c (back s I J same d h));
      pairs = λ P d e c h k. Iff.symm (same.pairs P d e c (back s I J same d h) (back s I J same e k));
      names = λ a h. sym (same.names a h);
      marks = λ k h. sym (same.marks k h);
    }

module _ (S : Schema) (marks : ℕ) where
  abbrev s : Signature
  s = allowing marks S.signature

  pub counterexample_alike : (query view : Concept) (I J : State) (d : ℕ) → Alike s I J
      → ((i : ℕ) → i < S.axioms → DeclaredAxiom S.signature (S.axiom_at i)) → Declared s query
      → Declared s view
      → Counterexample S query view I d → Counterexample S query view J d
  counterexample_alike query view I J d same axioms q v c =
      record {
        legal = legal_alike S marks I J same axioms c.legal;
        selected = (
          to s I J same d c.selected.0,
          in_alike s I J same query d q c.selected.0
              c.selected.1,
        );
        outside = λ x.
            c.outside (in_alike s J I (alike_sym s I J same) view d v
            (to s I J same d c.selected.0) x);
      }
