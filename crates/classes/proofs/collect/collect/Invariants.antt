-- The axioms passed have been collected, by whichever function says what the closure does.
use Rattle.std.proofs.Common.{◌≡◌, ℕ}
use lib.Bits.{bit_or}
use Rattle.records.specs.declared.schema.Axiom.{Axiom}
use Rattle.records.specs.SchemaRecord.{schema_of}
use Rattle.records.specs.Helpers.Loops.{upto}
use Rattle.classes.proofs.collect.collect.Given as goal

abbrev pub invariant-loop-i : goal.invariant-loop-i
invariant-loop-i g l =
    (f : Axiom → ℕ) → ((rule : Axiom) (c : ℕ) → goal.F-post g l.by rule c → c ≡ f rule)
    → l.found ≡ upto (λ j x. bit_or x (f ((schema_of l.schema).axiom_at j))) l.i 0
