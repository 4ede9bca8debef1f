-- The triples of document 01 for the test program, and a few more, decided by the model: one computation over a table of rows.
use Prim.Native.Nat.{ℕ, zero, suc, ◌<◌}
use native.Mathlib.Omega.{arith}
use mathlib.Core.Bool.{Bool, true, false, ◌&&◌, ◌||◌, beq, false≢true}
use mathlib.Core.List.{List, [], ◌∷◌, map}
use mathlib.Core.Path.{◌≡◌, refl}
use Rattle.records.specs.declared.schema.Signature.{Signature}
use Rattle.records.specs.declared.schema.Axiom.{Axiom}
use Rattle.records.specs.declared.schema.Axiom.TheVariants.{Subclass, Typing, Necessary, Single, Relates}
use Rattle.records.specs.Finite.{any, count}
use Rattle.records.specs.Schema.{Schema}
use Rattle.records.specs.Concept.{forward, backward, Concept, class, everything, constant, both, reached, common, mark, Path, empty, step}
use Rattle.records.specs.Layout.{schema_layout, size_at, entries, left_at, right_at, query_marks, no_marks}
use Rattle.records.specs.SchemaRecord.{signature_of, axiom_kind, axiom_of, schema_of}
use Rattle.records.specs.Encoding.{record_of, schema_record, axiom_words}
use Rattle.records.specs.Executable.{is_in}
use Rattle.records.proofs.Examples.{declaring}
use Rattle.records.specs.Helpers.Loops.{each, any_of, upto, settle}
use Rattle.chase.specs.ClassSet.{place, meets, has, full}
use Rattle.chase.specs.Axioms.{collect, needs, is_single, raise, closure, image}
use Rattle.records.specs.Subsumption.{Held, Open}
use Rattle.records.specs.Helpers.Declared.{DeclaredAxiom}
use Rattle.chase.specs.Task.{Task, WellFormed, asked, mark_node, ties}
use Rattle.chase.specs.Primary.{rep_of, set_of, add, join, merge, begin, settled, primary, clash}
use Rattle.records.specs.State.{repeats}
use Rattle.chase.specs.Ground.{live, object_of, listing, ground_of, ground}
use Rattle.chase.specs.Forest.{size, kid, parent, asks, classes_of, lacks, make, make_for, walks}
use Rattle.chase.specs.Candidate.{links, lacking, objects, forest, candidate, first}
use Rattle.chase.proofs.Answers.{says_held, says_open}

-- held, by the test that computes
verdict : Task → Bool
verdict t = clash t || is_in (candidate t) t.view (first t)

schema_from : Signature → List Axiom → Schema
schema_from s axioms = schema_of (schema_record s (map axiom_words axioms))

-- to unfold this is to read such a schema
read : Unit {0}
unfolding schema_from schema_of signature_of axiom_kind axiom_of schema_record record_of schema_layout size_at entries left_at right_at
read = tt

record Row : Type 0 where
  schema : Schema
  query : Concept
  view : Concept
  held : Bool

-- a step at the end of a path, and an object reached by one step
to : Path → ℕ → Concept → Path
to p P C = step p forward P C

back : Path → ℕ → Concept → Path
back p P C = step p backward P C

some : ℕ → Concept → Concept
some P C = reached (to empty P C)

-- the schema of the report: 0 Person, 1 Patient, 2 Doctor, 3 Male, 4 Female, 5 Drug, 6 Disease, 7 Topic, 8 String;
-- 0 takes, 1 consults, 2 suffers, 3 name, 4 skilled_in
medical : Schema
medical =
    schema_from (declaring 9 5 0 0)
    (Subclass 1 0 ∷ Typing 1 0 5 ∷ Typing 1 1 2 ∷ Typing 1 2 6 ∷ Necessary 1 2 ∷ Typing 0 3 8 ∷ Necessary 0 3 ∷ Single 0 3 ∷ Typing 2 4 6
    ∷ Relates 4 0 7 ∷ []
    )

query_patient : Concept
query_patient = both (both (class 3) (class 1)) (common (to empty 1 (class 4)) (back (to empty 2 everything) 4 (class 2)))

view_patient : Concept
view_patient = both (both (class 1) (some 3 (class 8))) (common (to (to empty 1 (class 2)) 4 (class 6)) (to empty 2 (class 6)))

-- three constants, of which constant 1 is loose
loose_second : Schema
loose_second = schema_from (declaring 1 0 3 2) []

-- classes 0 A, 1 B, 2 C; attribute 0 P
letters : List Axiom → Schema
letters = schema_from (declaring 3 1 0 0)

six_steps : Concept → Concept
six_steps C = reached (to (to (to (to (to (to empty 0 everything) 0 everything) 0 everything) 0 everything) 0 everything) 0 C)

rows : List Row
rows =
    record { schema = letters []; query = class 0; view = class 0; held = true }
    -- the domain of an attribute that is needed
    ∷ record { schema = letters (Necessary 0 0 ∷ Relates 0 1 2 ∷ []); query = class 0; view = class 1; held = true }
    -- needs without end
    ∷ record { schema = letters (Necessary 0 0 ∷ Typing 0 0 0 ∷ []); query = class 0; view = six_steps everything; held = true }
    ∷ record { schema = letters (Necessary 0 0 ∷ Typing 0 0 0 ∷ []); query = class 0; view = six_steps (class 1); held = false }
    -- two constants at once
    ∷ record { schema = schema_from (declaring 1 0 2 0) []; query = both (constant 0) (constant 1); view = class 0; held = true }
    ∷ record { schema = schema_from (declaring 1 0 2 0) []; query = constant 0; view = constant 1; held = false }
    -- .. of which the second is loose, and a third that is not
    ∷ record { schema = loose_second; query = constant 0; view = constant 1; held = false }
    ∷ record { schema = loose_second; query = both (constant 0) (constant 1); view = class 0; held = false }
    ∷ record { schema = loose_second; query = both (constant 1) (constant 2); view = class 0; held = false }
    ∷ record { schema = loose_second; query = both (both (constant 0) (constant 1)) (constant 2); view = class 0; held = true }
    -- at most one value
    ∷ record {
      schema = letters (Single 0 0 ∷ []);
      query = both (class 0) (both (some 0 (class 1)) (some 0 (class 2)));
      view = some 0 (both (class 1) (class 2));
      held = true;
    }
    ∷ record {
      schema = letters [];
      query = both (class 0) (both (some 0 (class 1)) (some 0 (class 2)));
      view = some 0 (both (class 1) (class 2));
      held = false;
    }
    -- .. and no such rule for backward steps
    ∷ record {
      schema = letters (Single 0 0 ∷ []);
      query = both (reached (back empty 0 (both (class 0) (class 1)))) (reached (back empty 0 (both (class 0) (class 2))));
      view = reached (back empty 0 (both (class 1) (class 2)));
      held = false;
    }
    -- the closing object takes no part in the view
    ∷ record {
      schema = letters (Necessary 0 0 ∷ []);
      query = class 0;
      view = reached
          (back (to empty 0 everything) 0 (class 1));
      held = false;
    }
    -- one mark at two places, and two marks
    ∷ record {
      schema = letters [];
      query = both (some 0 (both (class 1) (mark 0))) (some 0 (both (class 2) (mark 0)));
      view = some 0 (both (class 1) (class 2));
      held = true;
    }
    ∷ record {
      schema = letters [];
      query = both (some 0 (both (class 1) (mark 0))) (some 0 (both (class 2) (mark 1)));
      view = some 0 (both (class 1) (class 2));
      held = false;
    }
    -- a mark at the start, and one at a constant
    ∷ record { schema = letters []; query = both (mark 3) (some 0 (mark 3)); view = common (to empty 0 everything) empty; held = true }
    ∷ record {
      schema = schema_from (declaring 1 1 2 0) [];
      query = both (both (constant 0) (mark 1)) (some 0 (both (constant 1) (mark 1)));
      view = class 0;
      held = true;
    }
    ∷ record { schema = medical; query = query_patient; view = view_patient; held = true }
    ∷ record { schema = medical; query = view_patient; view = query_patient; held = false }
    ∷ []

agrees : List Row → Bool
agrees [] = true
agrees (r ∷ l) = beq (verdict record { schema = r.schema; query = r.query; view = r.view; marks = query_marks }) r.held && agrees l

-- to unfold this is to unfold the whole model
model : Unit {0}
unfolding verdict clash repeats primary settled begin settle upto each rep_of set_of add join merge asked mark_node ties raise collect has meets place
    needs is_single closure image ground ground_of live object_of listing count any forest walks make_for make lacks kid parent size
    asks any_of classes_of full links lacking objects
model = tt

rows_agree : agrees rows ≡ true
unfolding model read agrees rows six_steps letters loose_second view_patient query_patient medical some back to
rows_agree = refl

-- The hypotheses of the theorems can be met: the second row once more, as a theorem on all states, and with another view
-- as a counterexample.
needing : Concept → Task
needing view = record { schema = letters (Necessary 0 0 ∷ Relates 0 1 2 ∷ []); query = class 0; view = view; marks = no_marks }

needing_formed : (view : Concept) → WellFormed (needing view)
unfolding read needing letters
needing_formed view = record { axioms = declared; query = omega arith }
  where
    declared : (i : ℕ) → i < 2 → DeclaredAxiom (needing view).schema.signature ((needing view).schema.axiom_at i)
    declared zero h = omega arith
    declared (suc zero) h = omega arith
    declared (suc (suc i)) h = absurd (omega arith)

needing_held : Held (needing (class 1)).schema (class 0) (class 1)
unfolding model read needing letters
needing_held = says_held (needing (class 1)) (needing_formed (class 1)) tt refl

needing_open : Open (needing (class 2)).schema (class 0) (class 2)
unfolding model read needing letters
needing_open = (
  candidate (needing (class 2)),
  first (needing (class 2)),
  says_open (needing (class 2)) (needing_formed (class 2)) refl
      (λ h. false≢true h),
)
