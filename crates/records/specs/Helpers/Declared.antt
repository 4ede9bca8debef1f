-- An axiom, a concept and a path that name declared classes, attributes and constants and allowed marks alone.
use Rattle.std.specs.Prelude.{◌<◌}
use Rattle.std.proofs.Math.Bool.{So}
use Rattle.records.specs.declared.schema.Signature.{Signature}
use Rattle.records.specs.declared.schema.Axiom.{Axiom}
use Rattle.records.specs.declared.schema.Axiom.TheVariants.{Subclass, Typing, Necessary, Single, Relates}
use Rattle.records.specs.Marks.{allows}
use Rattle.records.specs.Concept.{Concept, class, everything, constant, both, reached, common, mark, Path, empty, step}

abbrev pub DeclaredAxiom : Signature → Axiom → Type 0
DeclaredAxiom s (Subclass A B) = (A < s.classes) × (B < s.classes)
DeclaredAxiom s (Typing A P B) = (A < s.classes) × (P < s.attributes) × (B < s.classes)
DeclaredAxiom s (Necessary A P) = (A < s.classes) × (P < s.attributes)
DeclaredAxiom s (Single A P) = (A < s.classes) × (P < s.attributes)
DeclaredAxiom s (Relates P A B) = (P < s.attributes) × (A < s.classes) × (B < s.classes)

module _ (s : Signature) where
  abbrev mutual
    pub Declared : Concept → Type 0
    Declared (class A) = A < s.classes
    Declared everything = Unit {0}
    Declared (constant a) = a < s.constants
    Declared (both C D) = Declared C × Declared D
    Declared (reached p) = DeclaredPath p
    Declared (common p q) = DeclaredPath p × DeclaredPath q
    Declared (mark k) = So (allows s k)

    pub DeclaredPath : Path → Type 0
    DeclaredPath empty = Unit {0}
    DeclaredPath (step p r P C) = DeclaredPath p × (P < s.attributes) × Declared C
