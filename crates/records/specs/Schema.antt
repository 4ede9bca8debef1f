-- Document 01, "Meaning": axioms by kind, and legal states. The axioms and the signature are the types of src/schema.rt.
use Rattle.std.specs.Prelude.{ℕ, ◌<◌, ◌≡◌}
use Rattle.records.specs.declared.schema.Axiom.{Axiom}
use Rattle.records.specs.declared.schema.Axiom.TheVariants.{Subclass, Typing, Necessary, Single, Relates}
use Rattle.records.specs.declared.schema.Signature.{Signature}
use Rattle.records.specs.State.{State, Member, Related, Every, Some, Names}

-- how many classes, attributes and constants there are, and the sequence of axioms
pub record Schema : Type 0 where
  pub signature : Signature
  pub axioms : ℕ
  pub axiom_at : ℕ → Axiom

abbrev pub Holds : State → Axiom → Type 0
-- 1: each object of class A is in class B
Holds I (Subclass A B) = Every I λ d. Member I A d → Member I B d
-- 2: each value of attribute P at an object of A is in B
Holds I (Typing A P B) = Every I λ d. Member I A d → Every I λ e. Related I P d e → Member I B e
-- 3: each object of A has at least one value of P
Holds I (Necessary A P) = Every I λ d. Member I A d → Some I λ e. Related I P d e
-- 4: each object of A has at most one value of P
Holds I (Single A P) = Every I λ d. Member I A d → Every I λ e. Related I P d e → Every I λ f. Related I P d f → e ≡ f
-- 5: in each pair of P the first object is in A and the second in B
Holds I (Relates P A B) = Every I λ d. Every I λ e. Related I P d e → Member I A d × Member I B e

-- I is a state for the schema's constants, and every axiom holds in it.
pub record Legal (S : Schema) (I : State) : Type 0 where
  pub names : Names S.signature I
  pub holds : (i : ℕ) → i < S.axioms → Holds I (S.axiom_at i)
