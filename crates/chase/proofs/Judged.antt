-- What the start's place in the written state means: in the view, then held; outside it, then the written state is a
-- counterexample (start_in_lem, start_out). The candidate's record is accepted (written_fits).
use Prim.Native.Nat.{ℕ, ◌<◌}
use mathlib.Core.Bool.{false, So}
use mathlib.Core.List.{List}
use mathlib.Core.Path.{◌≡◌, subst}
use Rattle.records.specs.Layout.{query_steps, view_steps}
use Rattle.records.specs.Semantics.{In}
use Rattle.records.specs.Subsumption.{Counterexample, Held}
use Rattle.records.specs.SchemaRecord.{signature_of, schema_of}
use Rattle.records.specs.ConceptRecord.{concept_of}
use Rattle.records.specs.StateRecord.{state_of}
use Rattle.records.specs.SchemaRefusal.{AcceptedSchema}
use Rattle.records.specs.ConceptRefusal.{AcceptedConcept}
use Rattle.records.specs.StateRefusal.{AcceptedState}
use Rattle.records.specs.Marks.{used_marks}
use Rattle.records.specs.Outcome.{query_signature, choice_signature}
use Rattle.records.specs.Helpers.Declared.{Declared}
use Rattle.chase.specs.Task.{Task, signature, task_of}
use Rattle.chase.specs.Primary.{clash}
use Rattle.chase.specs.Candidate.{candidate, first}
use Rattle.chase.specs.Written.{written}
use Rattle.chase.proofs.Answers.{clash_held, start_selected, says_held, says_open}
use Rattle.records.proofs.Alike.{Alike, alike_sym, in_alike, counterexample_alike}
use Rattle.chase.proofs.AcceptanceLaws.{Within, accepted_within, accepted_view, unmarked_view}
use Rattle.chase.proofs.WrittenLaws.{written_accepted, written_alike}

module _ (schema query view : List ℕ) (legal : AcceptedSchema schema) (asked : AcceptedConcept query_steps (query_signature schema) query)
    (stored : AcceptedConcept view_steps (signature_of schema) view) where
  within : Within (task_of schema query view)
  within = accepted_within schema query view legal asked stored

  pub clash_judged : So (clash (task_of schema query view)) → Held (schema_of schema) (concept_of query) (concept_of view)
  unfolding task_of
  clash_judged = clash_held (task_of schema query view) within.formed

  module _ (apart : clash (task_of schema query view) ≡ false) where
    abbrev t : Task
    t = task_of schema query view

    alike : Alike (signature t) (candidate t) (state_of (written t))
    alike = written_alike t within apart

    declared : Declared (signature t) t.view
    unfolding task_of schema_of
    declared = accepted_view schema query view legal asked stored (used_marks query)

    pub written_fits : AcceptedState (choice_signature schema query) (written t)
    unfolding task_of schema_of
    written_fits = written_accepted t within apart

    pub start_small : first t < (state_of (written t)).size
    start_small = subst (λ (n : ℕ). first t < n) alike.size (start_selected t within.formed apart).0

    pub start_in_lem : In (state_of (written t)) (concept_of view) (first t) → Held (schema_of schema) (concept_of query) (concept_of view)
    unfolding task_of
    start_in_lem x =
        says_held t within.formed (unmarked_view schema query view legal asked stored)
        (in_alike (signature t) (state_of (written t)) (candidate t) (alike_sym (signature t) (candidate t) (state_of (written t)) alike)
        t.view (first t) declared start_small x)

    pub start_out : (In (state_of (written t)) (concept_of view) (first t) → ⊥)
        → Counterexample (schema_of schema) (concept_of query) (concept_of view) (state_of (written t)) (first t)
    unfolding task_of
    start_out x =
        counterexample_alike t.schema t.marks t.query t.view (candidate t) (state_of (written t)) (first t) alike
        within.formed.axioms within.formed.query declared
        (says_open t within.formed apart
        (λ y. x (in_alike (signature t) (candidate t) (state_of (written t)) alike t.view (first t) declared
        (start_selected t within.formed apart).0 y)))
