-- The facts of a concept name only its own steps, its node and constants (facts_within), and objects that meet them witness
-- the concept (meets_in_lem). Witness has the way back.
use Prim.Native.Nat.{ℕ, ◌+◌, ◌≤◌, ◌<◌}
use native.Mathlib.Omega.{arith}
use mathlib.Core.Path.{◌≡◌, refl, sym, subst, ◌∙◌}
use Rattle.records.specs.declared.schema.Signature.{Signature}
use Rattle.records.specs.State.{State, Member, Related}
use Rattle.records.specs.Concept.{Direction, forward, backward, Concept, class, everything, constant, both, reached, common, mark, Path, empty, step}
use Rattle.records.specs.Semantics.{Steps, In, Leads}
use Rattle.records.specs.Helpers.Steps.{concept_steps, path_steps}
use Rattle.chase.specs.Facts.{Membership, Side, at_node, of_mark, Equation, Edge, Facts, none, equal, related, ◌⊕◌, end_node, concept_facts, path_facts}
use Rattle.records.specs.Helpers.Declared.{Declared, DeclaredPath}
use Rattle.records.proofs.General.AllLaws.{All, all_append, all_split}

-- what holds of each fact, by its sort
pub record AllFacts (X : Membership → Type 0) (Y : Equation → Type 0) (Z : Edge → Type 0) (F : Facts) : Type 0 where
  pub members : All X F.members
  pub equations : All Y F.equations
  pub edges : All Z F.edges

module _ {X : Membership → Type 0} {Y : Equation → Type 0} {Z : Edge → Type 0} where
  pub facts_append : {F G : Facts} → AllFacts X Y Z F → AllFacts X Y Z G → AllFacts X Y Z (F ⊕ G)
  facts_append {F} {G} h k =
      record {
        members = all_append X F.members G.members h.members k.members;
        equations = all_append Y F.equations G.equations h.equations k.equations;
        edges = all_append Z F.edges G.edges h.edges k.edges;
      }

  facts_split : (F G : Facts) → AllFacts X Y Z (F ⊕ G) → AllFacts X Y Z F × AllFacts X Y Z G
  facts_split F G h =
      let m = all_split X F.members G.members h.members in
      let q = all_split Y F.equations G.equations h.equations in
      let e = all_split Z F.edges G.edges h.edges in
      (record { members = m.0; equations = q.0; edges = e.0 }, record { members = m.1; equations = q.1; edges = e.1 })

  pub facts_none : AllFacts X Y Z none
  facts_none = record { members = tt; equations = tt; edges = tt }

-- R holds of the node, if it is one
abbrev pub OnSide : (ℕ → Type 0) → Side → Type 0
OnSide R (at_node n) = R n
OnSide R (of_mark k) = Unit {0}

-- each class is below the number of classes, and R holds of each node
abbrev pub Within : ℕ → (ℕ → Type 0) → Facts → Type 0
Within classes R =
    AllFacts (λ f. (f.class < classes) × R f.node) (λ f. R f.left × OnSide R f.right) (λ f. R f.origin × R f.target)

pub end_within : (R : ℕ → Type 0) (p : Path) (n k : ℕ) → R n → ((j : ℕ) → k ≤ j → j < k + path_steps p → R j) → R (end_node p n k)
end_within R empty n k h w = h
end_within R (step p r P C) n k h w = w _ (omega arith) (omega arith)

module _ (s : Signature) (first : ℕ) (R : ℕ → Type 0) (constants : (a : ℕ) → a < s.constants → R (first + a)) where
  pub related_within : (r : Direction) (P n m : ℕ) → R n → R m → Within s.classes R (related r P n m)
  related_within forward P n m h k = record { members = tt; equations = tt; edges = ((h, k), tt) }
  related_within backward P n m h k = record { members = tt; equations = tt; edges = ((k, h), tt) }

  pub equal_within : (n : ℕ) (m : Side) → R n → OnSide R m → Within s.classes R (equal n m)
  equal_within n m h k = record { members = tt; equations = ((h, k), tt); edges = tt }

  mutual
    pub facts_within : (C : Concept) (n k : ℕ) → Declared s C → R n → ((j : ℕ) → k ≤ j → j < k + concept_steps C → R j)
        → Within s.classes R (concept_facts first C n k)
    facts_within (class A) n k c h w = record { members = ((c, h), tt); equations = tt; edges = tt }
    facts_within everything n k c h w = facts_none
    facts_within (constant a) n k c h w = equal_within n (at_node (first + a)) h (constants a c)
    facts_within (both C D) n k c h w =
        facts_append
        (facts_within D n (k + concept_steps C) c.1 h λ j a b. w j (omega arith) (omega arith))
        (facts_within C n k c.0 h λ j a b. w j a (omega arith))
    facts_within (reached p) n k c h w = path_within p n k c h w
    facts_within (common p q) n k c h w =
        let wp : (j : ℕ) → k ≤ j → j < k + path_steps p → R j = λ j a b. w j a (omega arith) in
        let wq : (j : ℕ) → k + path_steps p ≤ j → j < k + path_steps p + path_steps q → R j = λ j a b. w j (omega arith) (omega arith) in
        facts_append
        (facts_append (path_within q n (k + path_steps p) c.1 h wq)
        (equal_within _ (at_node _) (end_within R p n k h wp) (end_within R q n (k + path_steps p) h wq)))
        (path_within p n k c.0 h wp)
    facts_within (mark m) n k c h w = equal_within n (of_mark m) h tt

    pub path_within : (p : Path) (n k : ℕ) → DeclaredPath s p → R n → ((j : ℕ) → k ≤ j → j < k + path_steps p → R j)
        → Within s.classes R (path_facts first p n k)
    path_within empty n k c h w = facts_none
    path_within (step p r P C) n k c h w =
        let wp : (j : ℕ) → k ≤ j → j < k + path_steps p → R j = λ j a b. w j a (omega arith) in
        let wj : R (k + path_steps p + concept_steps C) = w _ (omega arith) (omega arith) in
        facts_append
        (facts_append (facts_within C _ (k + path_steps p) c.2 wj λ j a b. w j (omega arith) (omega arith))
        (related_within r P _ _ (end_within R p n k h wp) wj))
        (path_within p n k c.0 h wp)

-- the object on that side
abbrev pub side_object : State → (ℕ → ℕ) → Side → ℕ
side_object I g (at_node n) = g n
side_object I g (of_mark k) = I.marks k

-- in state I, the objects that g gives to the nodes are as the facts say
abbrev pub Meets : State → (ℕ → ℕ) → Facts → Type 0
Meets I g =
    AllFacts (λ f. Member I f.class (g f.node)) (λ f. g f.left ≡ side_object I g f.right)
    (λ f. Related I f.attribute (g f.origin) (g f.target))

module _ (I : State) (g : ℕ → ℕ) where
  meets_steps : (r : Direction) (P n m : ℕ) → Meets I g (related r P n m) → Steps I r P (g n) (g m)
  meets_steps forward P n m h = h.edges.0
  meets_steps backward P n m h = h.edges.0

  pub steps_meet : (r : Direction) (P n m : ℕ) → Steps I r P (g n) (g m) → Meets I g (related r P n m)
  steps_meet forward P n m h = record { members = tt; equations = tt; edges = (h, tt) }
  steps_meet backward P n m h = record { members = tt; equations = tt; edges = (h, tt) }

  pub equal_meets : (n : ℕ) (m : Side) → g n ≡ side_object I g m → Meets I g (equal n m)
  equal_meets n m h = record { members = tt; equations = (h, tt); edges = tt }

-- g gives objects to all nodes, and to the declared constants their objects
pub record Assigns (s : Signature) (first : ℕ) (I : State) (g : ℕ → ℕ) : Type 0 where
  pub inside : (n : ℕ) → g n < I.size
  pub constants : (a : ℕ) → a < s.constants → g (first + a) ≡ I.names a

module _ (s : Signature) (first : ℕ) (I : State) (g : ℕ → ℕ) (G : Assigns s first I g) where
  mutual
    pub meets_in_lem : (C : Concept) (n k : ℕ) → Declared s C → Meets I g (concept_facts first C n k) → In I C (g n)
    meets_in_lem (class A) n k c h = h.members.0
    meets_in_lem everything n k c h = tt
    meets_in_lem (constant a) n k c h = h.equations.0 ∙ G.constants a c
    meets_in_lem (both C D) n k c h =
        let m = facts_split (concept_facts first D n (k + concept_steps C)) (concept_facts first C n k) h in
        (meets_in_lem C n k c.0 m.1, meets_in_lem D n (k + concept_steps C) c.1 m.0)
    meets_in_lem (reached p) n k c h = (g (end_node p n k), G.inside _, meets_leads p n k c h)
    meets_in_lem (common p q) n k c h =
        let E = equal (end_node p n k) (at_node (end_node q n (k + path_steps p))) in
        let m = facts_split (path_facts first q n (k + path_steps p) ⊕ E) (path_facts first p n k) h in
        let l = facts_split (path_facts first q n (k + path_steps p)) E m.0 in (
          g (end_node p n k),
          G.inside _,
          (
            meets_leads p n k c.0 m.1,
            subst (Leads I q (g n)) (sym l.1.equations.0) (meets_leads q n (k + path_steps p) c.1 l.0),
          ),
        )
    meets_in_lem (mark m) n k c h = h.equations.0

    meets_leads : (p : Path) (n k : ℕ) → DeclaredPath s p → Meets I g (path_facts first p n k) → Leads I p (g n) (g (end_node p n k))
    meets_leads empty n k c h = refl
    meets_leads (step p r P C) n k c h =
        let j = k + path_steps p + concept_steps C in
        let F = concept_facts first C j (k + path_steps p) in
        let m = facts_split (F ⊕ related r P (end_node p n k) j) (path_facts first p n k) h in
        let l = facts_split F (related r P (end_node p n k) j) m.0 in (
          g (end_node p n k),
          G.inside _,
          (meets_leads p n k c.0 m.1, meets_steps I g r P (end_node p n k) j l.1, meets_in_lem C j (k + path_steps p) c.2 l.0),
        )
