-- The place of an axiom and the number of an object are far below 2 ^ 64, since accepted records have few of both.
use Prim.Native.Nat.{ℕ, ◌≤◌}
use mathlib.Core.List.{List}
use mathlib.Core.Bool.{Bool, true, false, cond, not, ◌&&◌}
use mathlib.Core.Path.{◌≡◌, refl}
use native.Mathlib.Omega.{arith}
use lib.Dec.{eqb, ltb}
use borrow.Author.Tests.{ltb-true}
use Rattle.std.specs.Prelude.{Some, None, Ok, Err}
use Rattle.records.specs.State.{State}
use Rattle.records.specs.Schema.{Schema}
use Rattle.records.specs.Concept.{Concept}
use Rattle.records.specs.Layout.{max_axioms, max_objects}
use Rattle.records.specs.Executable.{holds, first_broken, broken}
use Rattle.records.specs.SchemaRecord.{schema_of}
use Rattle.records.specs.Outcome.{choice_signature}
use Rattle.records.specs.ConceptRecord.{concept_of}
use Rattle.records.specs.StateRecord.{state_of}
use Rattle.records.proofs.General.FiniteLaws.{least_le}
use Rattle.records.proofs.OutcomeLaws.{outcome_is, passed_schema, passed_record}
use Rattle.records.proofs.AcceptedLaws.{axioms_few, objects_few, passes_1, passes_7}
use Rattle.judge.specs.LegalState.{legal_refusals, legal_answer}
use Rattle.judge.specs.Counterexample.{lowest, finding, counterexample_refusals, counterexample_answer}
use Rattle.c_answers.specs.Given.{PlaceFits}

broken_fits : (S : Schema) (I : State) → S.axioms ≤ max_axioms → PlaceFits (Ok (broken S I))
unfolding broken
broken_fits S I few = pick (eqb (first_broken S I) S.axioms)
  where
    pick : (b : Bool) → PlaceFits (Ok (cond b None (Some (first_broken S I))))
    pick true = tt
    pick false = omega (arith, least_le (λ i. not (holds I (S.axiom_at i))) S.axioms)

finding_fits : (S : Schema) (I : State) (query view : Concept) → I.size ≤ max_objects → PlaceFits (Ok (finding S I query view))
unfolding finding
finding_fits S I query view few = pick (eqb (first_broken S I) S.axioms) (ltb (lowest I query view) I.size) refl
  where
    pick : (a b : Bool) → ltb (lowest I query view) I.size ≡ b
        → PlaceFits (Ok (cond (a && b) (Some (lowest I query view)) None))
    pick false b e = tt
    pick true false e = tt
    pick true true e = omega (arith, ltb-true (lowest I query view) I.size e)

pub legal_fits : (w v : List ℕ) → PlaceFits (legal_answer w v)
unfolding schema_of
legal_fits w v =
    outcome_is Err (Ok (broken (schema_of w) (state_of v))) PlaceFits (legal_refusals w v) (λ r. tt)
    (λ p. broken_fits (schema_of w) (state_of v) (axioms_few w (passes_1 w (passed_schema w p.0))))

pub counterexample_fits : (w q u v : List ℕ) → PlaceFits (counterexample_answer w q u v)
unfolding state_of
counterexample_fits w q u v =
    outcome_is Err (Ok (finding (schema_of w) (state_of v) (concept_of q) (concept_of u))) PlaceFits
    (counterexample_refusals w q u v) (λ r. tt)
    (λ p.
    finding_fits (schema_of w) (state_of v) (concept_of q) (concept_of u) (objects_few v (passes_7 (choice_signature w q) v (passed_record (choice_signature w q) v p.1.1.1.0))))
