-- An accepted view and state, and one of the state's objects: what `selects` relies on.
use Rattle.std.specs.Prelude.{ℕ, ◌<◌, List}
use Rattle.records.specs.declared.schema.Signature.{Signature}
use Rattle.records.specs.Layout.{view_steps}
use Rattle.records.specs.ConceptRefusal.{AcceptedConcept}
use Rattle.records.specs.StateRefusal.{AcceptedState}
use Rattle.records.specs.StateRecord.{state_of}

pub record Judgeable (s : Signature) (view state : List ℕ) (object : ℕ) : Type 0 where
  pub view_accepted : AcceptedConcept view_steps s view
  pub state_accepted : AcceptedState s state
  pub inside : object < (state_of state).size
