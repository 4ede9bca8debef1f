-- The candidate in arrays is listed: what each call of `list_in` relies on, and what stands at the start of the list then.
use Prim.Native.Nat.{ℕ, ◌-◌, ◌≤◌}
use mathlib.Core.List.{List}
use mathlib.Core.Path.{◌≡◌, ap, ◌∙◌}
use native.Mathlib.Omega.{arith}
use lib.ListN.{length, take}
use Rattle.records.specs.declared.schema.Signature.{Signature}
use Rattle.records.specs.Layout.{max_classes, max_attributes, max_constants, max_objects, query_steps}
use Rattle.records.specs.Marks.{allowing}
use Rattle.records.specs.SchemaRecord.{signature_of, schema_of}
use Rattle.records.proofs.AcceptedLaws.{passes_1}
use Rattle.chase.specs.Bounds.{most_facts}
use Rattle.chase.proofs.AcceptanceLaws.{accepted-signature}
use Rattle.ground.specs.Numbers.{object_in}
use Rattle.candidate.specs.declared.marks.Shape.{Shape}
use Rattle.candidate.specs.Facts.{all_facts}
use Rattle.candidate.specs.Ready.{Ready, NodesIn}
use Rattle.candidate.specs.Writing.{Wrote}
use Rattle.candidate.proofs.WriteLaws.{wrote_start}
use Rattle.candidate.proofs.BoundLaws.{all_fit}
use Rattle.construct.specs.Arrays.{constants_from, start_in, listing}
use Rattle.decide.specs.Start.{Judged, Listable}

module _ {schema view reps edges words : List ℕ} {z : Shape} (ok : Listable schema view reps edges words z) where
  pub limits : ((signature_of schema).classes ≤ max_classes) × ((signature_of schema).attributes ≤ max_attributes)
      × ((signature_of schema).constants ≤ max_constants) × (z.sizes.total ≤ max_objects) × (length edges ≤ query_steps)
  limits = let (a, b, c) = accepted-signature schema (passes_1 schema ok.ready.legal) in (a, b, c, ok.ready.small, ok.few)

  module _ {s : Signature} (is : s ≡ allowing z.marks.used (signature_of schema)) where
    from_is : length reps - s.constants ≡ constants_from schema reps
    from_is = ap (λ (u : Signature). length reps - u.constants) is

    pub constants_inside : s.constants ≤ length reps
    unfolding schema_of
    constants_inside = omega (arith, ap (λ (u : Signature). u.constants) is, ok.ready.constants)

    pub start_before : 1 ≤ length reps - s.constants
    start_before = omega (arith, from_is, ok.begins)

    -- a list with room for the most facts
    pub listed_ready : Ready schema reps (length reps - s.constants) edges words z.sizes × NodesIn (length reps) z.marks.nodes
    listed_ready = (rw from_is ok.ready, ok.marks)

    start_is : {d : ℕ} → d ≡ object_in reps (length reps - s.constants - 1) → d ≡ start_in schema reps
    start_is e = e ∙ ap (λ (i : ℕ). object_in reps (i - 1)) from_is

    -- the facts have been written to the list
    module _ {out after : List ℕ} {r : ℕ} (w : Wrote 0 (all_facts schema reps (length reps - s.constants) edges words z) out r after) where
      list_is : take r after ≡ listing schema reps edges words z
      list_is = (wrote_start _ out r after w).0 ∙ ap (λ (i : ℕ). all_facts schema reps i edges words z) from_is

      pub count_inside : {k : ℕ} → most_facts (signature_of schema) z.sizes.total (length edges) ≤ k → r ≤ k
      unfolding schema_of
      count_inside fits =
          omega (
            arith,
            w.end,
            fits,
            all_fit schema reps edges words (length reps - s.constants) z,
            ap (λ (m : ℕ). most_facts (signature_of schema) m (length edges)) ok.ready.number,
          )

      pub facts_judged : {d : ℕ} → d ≡ object_in reps (length reps - s.constants - 1) → Judged view z.sizes.total d (take r after) s
      facts_judged e = rw (list_is, start_is e, is) ok.judged

      -- what is said of the facts listed is said of the candidate's
      pub listed_is : {d : ℕ} → d ≡ object_in reps (length reps - s.constants - 1) → (d ≡ start_in schema reps) × (take r after ≡ listing schema reps edges words z)
      listed_is e = (start_is e, list_is)
