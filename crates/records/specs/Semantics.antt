-- Document 01, "Meaning": which objects a concept selects (the set semantics of table 1 of the report).
use Rattle.std.specs.Prelude.{ℕ, ◌<◌, ◌≡◌}
use Rattle.records.specs.State.{State, Member, Related, Some}
use Rattle.records.specs.Concept.{Direction, forward, backward, Concept, class, everything, constant, both, reached, common, mark, Path, empty, step}

-- a step of attribute P leads from d to e
abbrev pub Steps : State → Direction → ℕ → ℕ → ℕ → Type 0
Steps I forward P d e = Related I P d e
Steps I backward P d e = Related I P e d

module _ (I : State) where
  abbrev mutual
    -- object d is in the concept
    pub In : Concept → ℕ → Type 0
    In (class A) d = Member I A d
    In everything d = Unit {0}
    In (constant a) d = d ≡ I.names a
    In (both C D) d = In C d × In D d
    In (reached p) d = Some I λ e. Leads p d e
    In (common p q) d = Some I λ e. Leads p d e × Leads q d e
    In (mark k) d = d ≡ I.marks k

    -- the path leads from object d to object e
    pub Leads : Path → ℕ → ℕ → Type 0
    Leads empty d e = d ≡ e
    Leads (step p r P C) d e = Some I λ c. Leads p d c × Steps I r P c e × In C e

-- A concept selects the objects that are in it, and so does a query or view.
abbrev pub Selects : State → Concept → ℕ → Type 0
Selects I C d = (d < I.size) × In I C d
