-- A step of a path by the facts of its kind, and the set of the objects from which it leads into a set.
use Rattle.std.specs.Prelude.{ℕ, ◌+◌, ◌%◌, ◌^◌, ◌≤◌, ◌<◌, Bool, true, false, Option, Some, None, cond, not, ◌&&◌, ◌||◌, List, ◌≡◌, eqb, length, get_or}
use Rattle.records.specs.declared.token.Token.{Token}
use Rattle.records.specs.declared.token.Token.TheVariants.{Class, Everything, Constant, Both, Empty, Forward, Backward, Reached, Common, Mark}
use Rattle.records.specs.Finite.{any}
use Rattle.records.specs.Layout.{object_part, state_layout, entries, right_at, attribute_kinds, max_objects, max_facts}
use Rattle.records.specs.StateRecord.{objects, kind_at, object_at}
use Rattle.index.specs.BitSet.{bit_at}
use Rattle.index.specs.Kinds.{KindsRise}
use Rattle.paths.specs.declared.steps.Step.{Step}
use Rattle.paths.specs.declared.steps.Ends.{Ends}
use Rattle.rows.specs.Selection.{set_words}
use Rattle.rows.specs.Rows.{row_bit}

-- the step along an attribute
abbrev pub along : Bool → ℕ → Step
along back P = record { kind = attribute_kinds + P; backward = back }

-- the step of a token; other tokens are no steps
abbrev pub step_of : Token → Option Step
step_of (Class A) = None
step_of Everything = None
step_of (Constant a) = None
step_of Both = None
step_of Empty = None
step_of (Forward P) = Some (along false P)
step_of (Backward P) = Some (along true P)
step_of Reached = None
step_of Common = None
step_of (Mark k) = None

-- the first or the second object of the pair that fact i is
abbrev pub end_at : List ℕ → Bool → ℕ → ℕ
end_at w second i = cond second (right_at state_layout w i) (object_at w i)

-- A step goes from one end of the pair to the other.
abbrev pub origin_at : List ℕ → Step → ℕ → ℕ
origin_at w x i = end_at w x.backward i

abbrev pub target_at : List ℕ → Step → ℕ → ℕ
target_at w x i = end_at w (not x.backward) i

-- what following a step asks: the facts of a kind stand in a row, and name objects that there are
pub record Followable (w : List ℕ) (x : Step) : Type 0 where
  pub rise : KindsRise w
  pub few : entries state_layout w ≤ max_facts
  pub room : objects w ≤ max_objects
  pub inside : (second : Bool) (i : ℕ) → i < entries state_layout w → end_at w second i < objects w
  pub kind : x.kind < 2 ^ 17

-- fact i is of the step's kind and lands on an object of row a of the landings
abbrev pub lands : List ℕ → Step → List ℕ → ℕ → ℕ → Bool
lands w x landings a i = eqb (kind_at w i) x.kind && row_bit landings a (target_at w x i)

-- .. from o into the set
abbrev pub leads_into : List ℕ → Step → List ℕ → ℕ → List ℕ → ℕ → ℕ → Bool
leads_into w x landings a into o i = lands w x landings a i && bit_at into (target_at w x i) && eqb o (origin_at w x i)

-- where the words with the first or with the second objects of the pairs begin
abbrev pub ends_from : List ℕ → Bool → ℕ
ends_from w second = cond second (state_layout.sizes + entries state_layout w) state_layout.sizes

abbrev pub ends_of : List ℕ → Bool → Ends
ends_of w back = record { origins = ends_from w back; targets = ends_from w (not back) }

-- the object that fact i names in the words from a place on
abbrev pub object_in : List ℕ → ℕ → ℕ → ℕ
object_in w from i = get_or w (from + i) 0 % object_part

-- vs is ws with the origin of fact i, if its target is in a set
pub record Led (w : List ℕ) (e : Ends) (into ws : List ℕ) (i : ℕ) (vs : List ℕ) : Type 0 where
  pub size : length vs ≡ length ws
  pub bits : (o : ℕ) → bit_at vs o ≡ (bit_at ws o || bit_at into (object_in w e.targets i) && eqb o (object_in w e.origins i))

-- vs is the set of the objects from which the first n facts lead the step into a set
pub record Origins (w : List ℕ) (x : Step) (landings : List ℕ) (a : ℕ) (into : List ℕ) (n : ℕ) (vs : List ℕ) : Type 0 where
  pub size : length vs ≡ set_words
  pub bits : (o : ℕ) → o < object_part → bit_at vs o ≡ any n (leads_into w x landings a into o)
