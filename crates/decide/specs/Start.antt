-- What contracts of helper functions cite: the answer by the start of the candidate, which is given by its facts.
use Rattle.std.specs.Prelude.{ℕ, ◌≤◌, ◌<◌, ◌^◌, Bool, cond, ◌||◌, List, ◌++◌, ◌↔◌, ◌≡◌, ltb, length, drop, Option, Some, None}
use Rattle.records.specs.declared.schema.Signature.{Signature}
use Rattle.records.specs.Layout.{query_steps, view_steps, max_facts, max_state_words}
use Rattle.records.specs.Marks.{allowing}
use Rattle.records.specs.Executable.{is_in}
use Rattle.records.specs.Encoding.{state_record}
use Rattle.records.specs.Subsumption.{Open, Held}
use Rattle.records.specs.SchemaRecord.{signature_of, schema_of}
use Rattle.records.specs.ConceptRecord.{concept_of}
use Rattle.records.specs.StateRecord.{state_of}
use Rattle.records.specs.ConceptRefusal.{AcceptedConcept}
use Rattle.records.specs.StateRefusal.{AcceptedState}
use Rattle.candidate.specs.declared.marks.Shape.{Shape}
use Rattle.candidate.specs.Ready.{Ready, NodesIn}
use Rattle.construct.specs.Arrays.{constants_from, start_in, listing}
use Rattle.decide.specs.declared.Witness.{Witness}

module _ (view : List ℕ) (n start : ℕ) (facts : List ℕ) where
  -- the start is in the view
  unfoldable pub start_inside : Bool
  start_inside = is_in (state_of (state_record n facts)) (concept_of view) start

  abbrev pub start_answer : Option Witness
  start_answer = cond start_inside None (Some record { objects = n; object = start })

  -- the record is written if the start is outside and there is room for the largest
  abbrev pub start_words : List ℕ → List ℕ
  start_words lent =
      cond (start_inside || ltb (length lent) max_state_words) lent (state_record n facts ++ drop (length (state_record n facts)) lent)

  -- an accepted view, and facts whose record is accepted and has the start
  pub record Judged (s : Signature) : Type 0 where
    pub view_accepted : AcceptedConcept view_steps s view
    pub state_accepted : AcceptedState s (state_record n facts)
    pub inside : start < (state_of (state_record n facts)).size
    pub objects : n < 2 ^ 16
    pub few : length facts ≤ max_facts

-- the candidate in arrays can be listed, and its facts judged
pub record Listable (schema view reps edges words : List ℕ) (z : Shape) : Type 0 where
  pub ready : Ready schema reps (constants_from schema reps) edges words z.sizes
  pub marks : NodesIn (length reps) z.marks.nodes
  pub few : length edges ≤ query_steps
  pub begins : 0 < constants_from schema reps
  pub judged :
      Judged view z.sizes.total (start_in schema reps) (listing schema reps edges words z) (allowing z.marks.used (signature_of schema))

-- held or open is said, each exactly when it is so
pub record Told (schema query view : List ℕ) (answer : Option Witness) : Type 0 where
  pub is_held : (answer ≡ None) ↔ Held (schema_of schema) (concept_of query) (concept_of view)
  pub is_open : ((w : Witness) × (answer ≡ Some w)) ↔ Open (schema_of schema) (concept_of query) (concept_of view)
