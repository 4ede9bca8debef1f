-- A fold over the axioms is the model's loop.
use Rattle.std.proofs.Common.{rules}
use Rattle.chase.specs.Axioms.{raise}
use Rattle.records.specs.SchemaRecord.{schema_of}
use Rattle.records.proofs.General.RangeLaws.{fold_below}
use Rattle.records.proofs.AcceptedLaws.{axiom_in_range}
use Rattle.classes.proofs.FoldLaws.{callable_in_fold}
use Rattle.classes.proofs.closure.raise.Goals as goal

pub fold-requires-clause-callable : goal.fold-requires-clause-callable
fold-requires-clause-callable c = callable_in_fold (λ x i y q k. search rules) (λ x i h. search (rules, axiom_in_range))

pub returns : goal.returns
unfolding raise schema_of
returns c = rw (← c.axioms.ensures.value) (fold_below c.fold.ensures.ran (λ x i y q k. search rules))
