-- Select: word i becomes 1 if object i is selected and 0 if not, for the first N words; later words are unaltered. The
-- answer is how many are selected. (is_in is the test of In: is_in_iff of records.)
use Rattle.std.specs.Prelude.{ℕ, zero, suc, List, [], ◌∷◌, ◌++◌, Bool, cond, drop, Option, Result, Ok, Err}
use Rattle.records.specs.declared.refusal.Refusal.{Refusal}
use Rattle.records.specs.Finite.{count}
use Rattle.records.specs.State.{State}
use Rattle.records.specs.Concept.{Concept}
use Rattle.records.specs.Executable.{is_in}
use Rattle.records.specs.ConceptRecord.{concept_of}
use Rattle.records.specs.StateRecord.{objects, state_of}
use Rattle.records.specs.Outcome.{schema_refusal, plain_refusal, state_refusal, lent_refusal, outcome}

-- 1 or 0 for each number below n
unfoldable pub flags : (ℕ → Bool) → ℕ → List ℕ
flags f zero = []
flags f (suc n) = flags f n ++ (cond (f n) 1 0 ∷ [])

-- the answer, and the lent words after the call
pub record SelectOutcome : Type 0 where
  pub answer : Result ℕ Refusal
  pub words : List ℕ

unfoldable pub selection : State → Concept → List ℕ → SelectOutcome
selection I C lent =
    record {
      answer = Ok (count I.size (is_in I C));
      words = flags (is_in I C) I.size ++ drop I.size lent;
    }

-- a refused call alters no word
abbrev pub refused_with : List ℕ → Refusal → SelectOutcome
refused_with lent r = record { answer = Err r; words = lent }

abbrev pub select_refusals : List ℕ → List ℕ → List ℕ → List ℕ → List (Option Refusal)
select_refusals schema concept state lent =
    schema_refusal schema ∷ plain_refusal schema concept ∷ state_refusal schema state ∷ lent_refusal (objects state) lent ∷ []

abbrev pub select_outcome : List ℕ → List ℕ → List ℕ → List ℕ → SelectOutcome
select_outcome schema concept state lent =
    outcome (refused_with lent) (select_refusals schema concept state lent) (selection (state_of state) (concept_of concept) lent)
