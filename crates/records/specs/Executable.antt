-- Semantics.antt and Schema.antt once more, as tests that compute. ExecutableLaws of proofs/ shows that they agree.
use Rattle.std.specs.Prelude.{ℕ, Bool, true, not, cond, ◌&&◌, ◌||◌, eqb, Option, Some, None}
use Rattle.records.specs.declared.schema.Axiom.{Axiom}
use Rattle.records.specs.declared.schema.Axiom.TheVariants.{Subclass, Typing, Necessary, Single, Relates}
use Rattle.records.specs.Finite.{all, any, least}
use Rattle.records.specs.State.{State}
use Rattle.records.specs.Schema.{Schema}
use Rattle.records.specs.Concept.{Direction, forward, backward, Concept, class, everything, constant, both, reached, common, mark, Path, empty, step}

abbrev pub steps_to : State → Direction → ℕ → ℕ → ℕ → Bool
steps_to I forward P d e = I.pairs P d e
steps_to I backward P d e = I.pairs P e d

module _ (I : State) where
  abbrev mutual
    pub is_in : Concept → ℕ → Bool
    is_in (class A) d = I.members A d
    is_in everything d = true
    is_in (constant a) d = eqb d (I.names a)
    is_in (both C D) d = is_in C d && is_in D d
    is_in (reached p) d = any I.size λ e. leads_to p d e
    is_in (common p q) d = any I.size λ e. leads_to p d e && leads_to q d e
    is_in (mark k) d = eqb d (I.marks k)

    pub leads_to : Path → ℕ → ℕ → Bool
    leads_to empty d e = eqb d e
    leads_to (step p r P C) d e = any I.size λ c. leads_to p d c && steps_to I r P c e && is_in C e

abbrev pub implies : Bool → Bool → Bool
implies a b = not a || b

abbrev pub holds : State → Axiom → Bool
holds I (Subclass A B) = all I.size λ d. implies (I.members A d) (I.members B d)
holds I (Typing A P B) = all I.size λ d. implies (I.members A d) (all I.size λ e. implies (I.pairs P d e) (I.members B e))
holds I (Necessary A P) = all I.size λ d. implies (I.members A d) (any I.size λ e. I.pairs P d e)
holds I (Single A P) =
    all I.size λ d.
    implies (I.members A d)
    (all I.size λ e. implies (I.pairs P d e) (all I.size λ f. implies (I.pairs P d f) (eqb e f)))
holds I (Relates P A B) = all I.size λ d. all I.size λ e. implies (I.pairs P d e) (I.members A d && I.members B e)

-- the place of the first broken axiom, or the number of axioms where none is broken
abbrev pub first_broken : Schema → State → ℕ
first_broken S I = least S.axioms λ i. not (holds I (S.axiom_at i))

-- the first broken axiom, or none where all hold
unfoldable pub broken : Schema → State → Option ℕ
broken S I = cond (eqb (first_broken S I) S.axioms) None (Some (first_broken S I))
