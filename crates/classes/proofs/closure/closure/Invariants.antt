-- A round changes nothing of the closure, and the closure of a set that stands still is that set.
use Prim.Native.Nat.{◌-◌, ◌^◌}
use mathlib.Core.Path.{◌≡◌}
use Rattle.records.specs.SchemaRecord.{schema_of}
use Rattle.chase.specs.Axioms.{raise, closure}
use Rattle.classes.specs.Sets.{DeclaredSet}
use Rattle.classes.proofs.closure.closure.Given as goal

abbrev pub invariant-loop-next : goal.invariant-loop-next
invariant-loop-next l =
    (l.next ≡ raise (schema_of l.schema) l.closed) × (closure (schema_of l.schema) l.closed ≡ closure (schema_of l.schema) l.set)
    × DeclaredSet l.schema l.closed

abbrev pub decreases-loop-next : goal.decreases-loop-next
decreases-loop-next l = 2 ^ (schema_of l.schema).signature.classes - l.closed
