-- What the entries use of evaluation: it takes accepted records, and gives a set with a bit for each object.
use Prim.Native.Nat.{ℕ, ◌≤◌, ◌<◌}
use mathlib.Core.List.{List}
use mathlib.Core.Path.{◌≡◌, ◌∙◌}
use native.Mathlib.Omega.{arith}
use borrow.Author.Tests.{lt-ltb}
use Rattle.records.specs.declared.schema.Signature.{Signature}
use Rattle.records.specs.Layout.{object_part}
use Rattle.records.specs.State.{State}
use Rattle.records.specs.Concept.{Concept}
use Rattle.records.specs.Executable.{is_in}
use Rattle.records.specs.ConceptRefusal.{AcceptedConcept}
use Rattle.records.specs.StateRefusal.{AcceptedState}
use Rattle.records.proofs.AcceptedLaws.{passes_3, passes_4, passes_5}
use Rattle.index.specs.BitSet.{bit_at}
use Rattle.paths.specs.Evaluable.{Evaluable}
use Rattle.rows.specs.Selection.{Selection}

pub evaluable : (limit : ℕ) {s : Signature} {concept state : List ℕ} → AcceptedConcept limit s concept → AcceptedState s state → Evaluable s concept state
evaluable limit {s} {concept} read judged =
    record { shape = passes_3 limit s concept read; tokens = passes_4 limit s concept read; pile = passes_5 limit s concept read; accepted = judged }

pub selected_bit : (I : State) (C : Concept) (ws : List ℕ) → Selection I C ws → I.size ≤ object_part → (d : ℕ) → d < I.size → bit_at ws d ≡ is_in I C d
selected_bit I C ws z few d h = z.bits d (omega arith) ∙ rw (lt-ltb d I.size h)
