-- The nodes passed have been lifted.
use lib.ListN.{length}
use Rattle.records.specs.SchemaRecord.{schema_of}
use Rattle.records.specs.Helpers.Loops.{upto}
use Rattle.chase.specs.Primary.{lift}
use Rattle.primary.specs.Formed.{prime, Becomes}
use Rattle.primary.proofs.rules.lift_all.Given as goal

abbrev pub invariant-loop-i : goal.invariant-loop-i
invariant-loop-i l =
    Becomes (length l.reps) l.reps l.sets (upto (lift (schema_of l.schema)) l.i (prime l.reps l.initial.sets))
