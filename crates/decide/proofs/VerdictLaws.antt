-- What is answered to accepted records. Held and open exclude each other; a clash is held, and otherwise the start of the
-- candidate decides which it is.
use Prim.Native.Nat.{ℕ, ◌≤◌}
use mathlib.Core.List.{List, ◌++◌}
use mathlib.Core.Bool.{Bool, true, false, So, cond, ◌||◌}
use mathlib.Core.Path.{◌≡◌, refl, sym, ap, ap₂, subst, ◌∙◌}
use native.Mathlib.Omega.{arith}
use borrow.Author.Tests.{le-ltb}
use lib.Dec.{ltb}
use lib.ListN.{length, drop}
use Rattle.std.specs.Prelude.{Some, None}
use Rattle.std.proofs.lemmas.Option.{none-some, same_Some}
use Rattle.records.specs.Layout.{view_steps, max_state_words}
use Rattle.records.specs.Marks.{allowing, used_marks}
use Rattle.records.specs.Outcome.{choice_signature}
use Rattle.records.proofs.MarkLaws.{accepted_allowing}
use Rattle.records.specs.Schema.{Schema}
use Rattle.records.specs.Concept.{Concept}
use Rattle.records.specs.Encoding.{state_record}
use Rattle.records.specs.Subsumption.{Counterexample, Open, Held}
use Rattle.records.specs.SchemaRecord.{signature_of, schema_of}
use Rattle.records.specs.ConceptRecord.{concept_of}
use Rattle.records.specs.StateRecord.{state_of}
use Rattle.records.specs.StateRefusal.{AcceptedState}
use Rattle.records.specs.Helpers.Triple.{Triple}
use Rattle.records.proofs.General.BoolLaws.{not_both}
use Rattle.records.proofs.ExecutableLaws.{is_in_iff}
use Rattle.chase.specs.Task.{Task, task_of}
use Rattle.chase.specs.Primary.{clash}
use Rattle.chase.specs.Ground.{ground}
use Rattle.chase.specs.Candidate.{forest, first}
use Rattle.chase.specs.Written.{facts, written}
use Rattle.chase.proofs.Judged.{clash_judged, written_fits, start_small, start_in_lem, start_out}
use Rattle.chase.proofs.AcceptanceLaws.{Within, accepted_within}
use Rattle.chase.proofs.WrittenLaws.{facts_few, written_length, written_size}
use Rattle.candidate.specs.declared.marks.Shape.{Shape}
use Rattle.asked.specs.Listed.{listed}
use Rattle.construct.specs.declared.Made.{Made}
use Rattle.construct.specs.Arrays.{start_in, listing, BuiltArrays}
use Rattle.construct.proofs.ArraysLaws.{listing_is}
use Rattle.decide.specs.declared.Witness.{Witness}
use Rattle.decide.specs.Decision.{Shown, Verdict}
use Rattle.decide.specs.Start.{start_inside, start_answer, start_words, Judged, Listable, Told}

exclude : (S : Schema) (query view : Concept) → Held S query view → Open S query view → ⊥
exclude S query view held (I, d, c) = c.outside (held I c.legal d c.selected.0 c.selected.1)

module _ (schema query view : List ℕ) where
  abbrev S : Schema
  S = schema_of schema

  pub told_held : Held S (concept_of query) (concept_of view) → Told schema query view None
  told_held h =
      record {
        is_held = (λ _. h, λ _. refl);
        is_open = (λ o. absurd (none-some o.0 o.1), λ o. absurd (exclude S (concept_of query) (concept_of view) h o));
      }

  told_open : (w : Witness) → Open S (concept_of query) (concept_of view) → Told schema query view (Some w)
  told_open w o =
      record {
        is_held = (λ e. absurd (none-some w (sym e)), λ h. absurd (exclude S (concept_of query) (concept_of view) h o));
        is_open = (λ _. o, λ _. (w, refl));
      }

  module _ (lent : List ℕ) where
    pub verdict_held : Held S (concept_of query) (concept_of view) → Verdict schema query view lent None lent
    verdict_held h =
        let t = told_held h in
        record { is_held = t.is_held; unaltered = λ _. refl; is_open = t.is_open; shown = λ w e. absurd (none-some w e) }

    verdict_open : (w : Witness) (words : List ℕ) → Shown schema query view lent w.objects w.object words
        → Verdict schema query view lent (Some w) words
    verdict_open w words s =
        let t = told_open w (state_of s.written, w.object, s.counterexample) in
        record {
          is_held = t.is_held;
          unaltered = λ e. absurd (none-some w (sym e));
          is_open = t.is_open;
          shown = λ v e. subst (λ (u : Witness). Shown schema query view lent u.objects u.object words) (same_Some w v e) s;
        }

module _ {schema query view : List ℕ} (ok : Triple schema query view) where
  pub clash_is_held : So (clash (task_of schema query view)) → Held (schema_of schema) (concept_of query) (concept_of view)
  clash_is_held = clash_judged schema query view ok.schema_accepted ok.query_accepted ok.view_accepted

  -- by the start of the candidate in arrays
  module _ {reps words : List ℕ} {made : Made} (built : BuiltArrays schema query view reps words made) where
    abbrev z : Shape
    z = made.shape

    abbrev edges : List ℕ
    edges = listed made.edges

    abbrev t : Task
    t = task_of schema query view

    abbrev n : ℕ
    n = z.sizes.total

    abbrev start : ℕ
    start = start_in schema reps

    abbrev list : List ℕ
    list = listing schema reps edges words z

    abbrev witness : Witness
    witness = record { objects = n; object = start }

    within : Within t
    within = accepted_within schema query view ok.schema_accepted ok.query_accepted ok.view_accepted

    list_is : list ≡ facts t.schema (ground t) (forest t)
    list_is = listing_is schema query view reps edges words z built.arrays built.marks

    record_is : state_record n list ≡ written t
    unfolding written
    record_is = ap₂ state_record built.arrays.size list_is

    accepted : AcceptedState (choice_signature schema query) (state_record n list)
    accepted =
        subst (AcceptedState (choice_signature schema query)) (sym record_is)
        (written_fits schema query view ok.schema_accepted ok.query_accepted ok.view_accepted built.apart)

    used_is : z.marks.used ≡ used_marks query
    unfolding task_of
    used_is = built.marks.used

    judged : Judged view n start list (allowing z.marks.used (signature_of schema))
    judged =
        record {
          view_accepted = accepted_allowing view_steps schema view z.marks.used ok.view_accepted;
          state_accepted = subst (λ (u : ℕ). AcceptedState (allowing u (signature_of schema)) (state_record n list)) (sym used_is) accepted;
          inside =
              rw (record_is, built.arrays.start)
              (start_small schema query view ok.schema_accepted ok.query_accepted ok.view_accepted built.apart);
          objects = omega (arith, built.arrays.ready.small);
          few = rw list_is (facts_few t within);
        }

    pub listable : Listable schema view reps edges words z
    listable = record { ready = built.arrays.ready; marks = built.marks.nodes; few = built.arrays.few; begins = built.arrays.begins; judged = judged }

    inside_held : So (start_inside view n start list) → Held (schema_of schema) (concept_of query) (concept_of view)
    unfolding start_inside
    inside_held x =
        start_in_lem schema query view ok.schema_accepted ok.query_accepted ok.view_accepted built.apart
        ((is_in_iff (state_of (written t)) (concept_of view) (first t)).0 (rw (record_is, built.arrays.start) at x))

    outside_shown : start_inside view n start list ≡ false
        → Counterexample (schema_of schema) (concept_of query) (concept_of view) (state_of (state_record n list)) start
    unfolding start_inside
    outside_shown x =
        rw (record_is, built.arrays.start)
        (start_out schema query view ok.schema_accepted ok.query_accepted ok.view_accepted built.apart
        (λ i. not_both _ ((is_in_iff (state_of (written t)) (concept_of view) (first t)).1 i) (rw (record_is, built.arrays.start) at x)))

    pub told_by : Told schema query view (start_answer view n start list)
    told_by = go (start_inside view n start list) refl
      where
        go : (b : Bool) → start_inside view n start list ≡ b → Told schema query view (cond b None (Some witness))
        go true x = told_held schema query view (inside_held x)
        go false x = told_open schema query view witness (state_of (state_record n list), start, outside_shown x)

    shown : (lent : List ℕ) → max_state_words ≤ length lent → start_inside view n start list ≡ false
        → Shown schema query view lent n start (state_record n list ++ drop (length (state_record n list)) lent)
    shown lent room x =
        record {
          written = state_record n list;
          begins = refl;
          room = omega (arith, room, ap length record_is, written_length t within);
          accepted = accepted;
          objects = rw record_is (written_size t within ∙ sym built.arrays.size);
          small = built.arrays.ready.small;
          counterexample = outside_shown x;
        }

    pub verdict_by : (lent : List ℕ) → max_state_words ≤ length lent
        → Verdict schema query view lent (start_answer view n start list) (start_words view n start list lent)
    verdict_by lent room = go (start_inside view n start list) refl
      where
        go : (b : Bool) → start_inside view n start list ≡ b
            → Verdict schema query view lent (cond b None (Some witness))
            (cond (b || ltb (length lent) max_state_words) lent (state_record n list ++ drop (length (state_record n list)) lent))
        go true x = verdict_held schema query view lent (inside_held x)
        go false x = rw (le-ltb (length lent) max_state_words room) (verdict_open schema query view lent witness _ (shown lent room x))
