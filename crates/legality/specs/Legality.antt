-- What the search for the first broken axiom asks: an accepted schema and state, and the state's index. The state may be one for
-- a query with marks, accepted under a signature that allows them: no axiom heeds them.
use Rattle.std.specs.Prelude.{ℕ, List}
use Rattle.records.specs.declared.schema.Signature.{Signature}
use Rattle.records.specs.SchemaRefusal.{AcceptedSchema}
use Rattle.records.specs.StateRefusal.{AcceptedState}
use Rattle.index.specs.Index.{Indexes}

pub record Judged (s : Signature) (schema state seen : List ℕ) : Type 0 where
  pub schema_accepted : AcceptedSchema schema
  pub state_accepted : AcceptedState s state
  pub index : Indexes state seen
