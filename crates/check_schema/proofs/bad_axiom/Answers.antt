-- Some axiom is faulty.
use Rattle.std.proofs.Common.{rules}
use Rattle.records.proofs.General.RangeLaws.{any_below}
use Rattle.records.specs.SchemaRefusal.{refusal_2}
use Rattle.check_schema.proofs.bad_axiom.Goals as goal

pub returns : goal.returns
unfolding refusal_2
returns c =
    rw (← c.axioms.ensures.value, ← c.signature_of-s.ensures) (any_below c.any.ensures.ran (λ x b q k. search rules))
