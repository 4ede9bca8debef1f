-- What legal answers: by the first refusal that applies, or by the search for the first broken axiom.
use Prim.Native.Nat.{ℕ}
use mathlib.Core.List.{List, [], ◌∷◌}
use mathlib.Core.Path.{◌≡◌}
use Rattle.std.specs.Prelude.{Ok, Err}
use Rattle.records.specs.declared.schema.Signature.{Signature}
use Rattle.records.specs.declared.refusal.Refusal.{Refusal}
use Rattle.records.specs.Executable.{broken}
use Rattle.records.specs.SchemaRecord.{schema_of}
use Rattle.records.specs.StateRecord.{state_of}
use Rattle.records.specs.SchemaRefusal.{schema_answer}
use Rattle.records.specs.StateRefusal.{state_answer}
use Rattle.records.specs.Outcome.{schema_refusal}
use Rattle.records.proofs.OutcomeLaws.{refused_at, answered_at, answer_passed, declared_by}
use Rattle.judge.specs.LegalState.{legal_refusals, legal_answer}

-- Each return after the schema's check.
module _ (schema state : List ℕ) {s : Signature} (d : schema_answer schema ≡ Ok s) where
  pub state_refused : {r : Refusal} → state_answer s state ≡ Err r → Err r ≡ legal_answer schema state
  state_refused {r} e = rw (rw (declared_by schema d).0 at e) (refused_at Err _ (schema_refusal schema ∷ []) [] r (answer_passed d, tt))

  pub broken_answered : state_answer s state ≡ Ok tt → Ok (broken (schema_of schema) (state_of state)) ≡ legal_answer schema state
  broken_answered t = answered_at Err _ (legal_refusals schema state) (answer_passed d, (answer_passed (rw (declared_by schema d).0 at t), tt))
