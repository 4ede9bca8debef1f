-- The axioms passed have been collected, by whichever function says what the closure does.
use Rattle.std.proofs.Common.{arith}
use Rattle.chase.specs.Axioms.{collect}
use Rattle.records.specs.SchemaRecord.{schema_of}
use Rattle.records.proofs.General.TurnLaws.{upto_none, upto_more, upto_all}
use Rattle.records.proofs.AcceptedLaws.{axiom_in_range}
use Rattle.classes.proofs.collect.collect.Goals as goal

pub loop-i-init : goal.loop-i-init
loop-i-init g c = λ f told. upto_none _ 0

pub by-found-requires : goal.by-found-requires
by-found-requires g c = c.requires.asked _ (rw c.axiom_at.ensures (axiom_in_range _ c.requires.accepted _ (omega arith)))

pub loop-i-preserved : goal.loop-i-preserved
loop-i-preserved g c = λ f told. upto_more _ _ _ _ _ (c.loop-i.invariant f told) (rw (told _ _ c.by-found.ensures, c.axiom_at.ensures))

pub returns : goal.returns
unfolding collect schema_of
returns g c = λ f told. upto_all _ _ _ _ _ (c.loop-i.invariant f told) (omega arith)
