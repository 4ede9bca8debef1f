-- What an axiom or a token names is below the limits of a schema. Contracts of functions that take one of them cite it.
use Rattle.std.specs.Prelude.{◌<◌}
use Rattle.records.specs.declared.schema.Axiom.{Axiom}
use Rattle.records.specs.declared.schema.Axiom.TheVariants.{Subclass, Typing, Necessary, Single, Relates}
use Rattle.records.specs.declared.token.Token.{Token}
use Rattle.records.specs.declared.token.Token.TheVariants.{Class, Everything, Constant, Both, Empty, Forward, Backward, Reached, Common, Mark}
use Rattle.records.specs.Layout.{max_classes, max_attributes, max_constants, max_marks}

abbrev pub AxiomInRange : Axiom → Type 0
AxiomInRange (Subclass A B) = (A < max_classes) × (B < max_classes)
AxiomInRange (Typing A P B) = (A < max_classes) × (P < max_attributes) × (B < max_classes)
AxiomInRange (Necessary A P) = (A < max_classes) × (P < max_attributes)
AxiomInRange (Single A P) = (A < max_classes) × (P < max_attributes)
AxiomInRange (Relates P A B) = (P < max_attributes) × (A < max_classes) × (B < max_classes)

abbrev pub TokenInRange : Token → Type 0
TokenInRange (Class A) = A < max_classes
TokenInRange Everything = Unit {0}
TokenInRange (Constant a) = a < max_constants
TokenInRange Both = Unit {0}
TokenInRange Empty = Unit {0}
TokenInRange (Forward P) = P < max_attributes
TokenInRange (Backward P) = P < max_attributes
TokenInRange Reached = Unit {0}
TokenInRange Common = Unit {0}
TokenInRange (Mark k) = k < max_marks
