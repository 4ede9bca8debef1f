-- What evaluation asks of its records.
use Rattle.std.specs.Prelude.{ℕ, false, List, ◌≡◌}
use Rattle.records.specs.declared.schema.Signature.{Signature}
use Rattle.records.specs.ConceptRefusal.{refusal_3, refusal_4, refusal_5}
use Rattle.records.specs.StateRefusal.{AcceptedState}

-- a concept that is turned back for nothing but its count of steps, and an accepted state
pub record Evaluable (s : Signature) (concept state : List ℕ) : Type 0 where
  pub shape : refusal_3 concept ≡ false
  pub tokens : refusal_4 s concept ≡ false
  pub pile : refusal_5 concept ≡ false
  pub accepted : AcceptedState s state
