-- What C gets of decide and holds.
use Rattle.std.specs.Prelude.{ℕ, List, Bool, cond, Option, Some, None, Result, Ok, Err, ◌≡◌}
use Rattle.records.specs.declared.refusal.Refusal.{Refusal}
use Rattle.records.specs.Refusal.{returned}
use Rattle.decide.specs.declared.Witness.{Witness}
use Rattle.decide.specs.Decision.{Decision}
use Rattle.decide.specs.Holding.{Holding}
use Rattle.c_answers.specs.Given.{GivenTo}

-- 1 for held, 0 for open
abbrev pub held_bit : Bool → ℕ
held_bit held = cond held 1 0

-- an answer that holds may give, and what C gets of it
pub record HoldsTo (schema query view : List ℕ) (held : ℕ) (number : ℕ) (held' : ℕ) : Type 0 where
  pub answer : Result Bool Refusal
  pub holding : Holding schema query view answer
  pub given : GivenTo held_bit answer held number held'

-- 0 for held, how many objects the written state has
abbrev pub objects_in : Result (Option Witness) Refusal → ℕ → ℕ
objects_in (Ok None) before = 0
objects_in (Ok (Some w)) before = w.objects
objects_in (Err r) before = before

-- the object, where there is a written state
abbrev pub object_in : Result (Option Witness) Refusal → ℕ → ℕ
object_in (Ok None) before = before
object_in (Ok (Some w)) before = w.object
object_in (Err r) before = before

-- what C gets of an answer of decide
pub record WitnessTo (answer : Result (Option Witness) Refusal) (objects object number objects' object' : ℕ) : Type 0 where
  pub returns : number ≡ returned answer
  pub writes_objects : objects' ≡ objects_in answer objects
  pub writes_object : object' ≡ object_in answer object

-- an answer that decide may give, with the lent words after it, and what C gets of it
pub record DecidedTo (schema query view lent : List ℕ) (objects object : ℕ) (number : ℕ) (words : List ℕ) (objects' object' : ℕ)
    : Type 0 where
  pub answer : Result (Option Witness) Refusal
  pub decision : Decision schema query view lent answer words
  pub given : WitnessTo answer objects object number objects' object'
