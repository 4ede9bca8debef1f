-- What the search for the first broken axiom knows while it goes on, and at each of its ends.
-- An axiom of an accepted schema names only what the index has bits for, so BreakLaws applies to it.
use Prim.Native.Nat.{ℕ, ◌+◌, ◌≤◌, ◌<◌}
use mathlib.Core.Bool.{Bool, false, So, not}
use mathlib.Core.List.{List}
use mathlib.Core.Path.{◌≡◌, refl, sym, ap, subst, ◌∙◌}
use native.Mathlib.Nat.{le_of_lt}
use native.Mathlib.Omega.{arith}
use borrow.Author.Tests.{eq-eqb, ne_eqb}
use Rattle.std.specs.Prelude.{Option, Some, None}
use Rattle.std.specs.declared.ops.Range.{Range}
use Rattle.std.proofs.iter.Yields.{nat_range_steps}
use Rattle.records.specs.declared.schema.Axiom.{Axiom}
use Rattle.records.specs.declared.schema.Signature.{Signature}
use Rattle.records.specs.Finite.{any}
use Rattle.records.specs.Schema.{Schema, Holds}
use Rattle.records.specs.State.{State}
use Rattle.records.specs.Executable.{holds, first_broken, broken}
use Rattle.records.specs.Layout.{schema_layout, state_layout, entries}
use Rattle.records.specs.SchemaRecord.{schema_of}
use Rattle.records.specs.StateRecord.{objects as objects_of, state_of}
use Rattle.records.specs.Helpers.InRange.{AxiomInRange}
use Rattle.records.proofs.General.BoolLaws.{false_of, not_of_false}
use Rattle.records.proofs.General.FiniteLaws.{any_zero, any_still, any_none, none_any, least_is}
use Rattle.records.proofs.ExecutableLaws.{holds_iff}
use Rattle.records.proofs.AcceptedLaws.{axiom_in_range}
use Rattle.index.specs.Kinds.{KindsRise}
use Rattle.index.proofs.KindLaws.{kinds_rise}
use Rattle.legality.specs.Legality.{Judged}
use Rattle.legality.specs.Breaks.{object_breaks, misplaced, pair_breaks}
use Rattle.legality.specs.Asked.{objects_asked}
use Rattle.legality.proofs.BreakLaws.{object_broken, pair_broken, unbroken}
use Rattle.legality.proofs.AskedLaws.{objects_asked_few, objects_asked_all, Settled}

-- axiom i is broken
abbrev pub broken_at : Schema → State → ℕ → Bool
broken_at S I i = not (holds I (S.axiom_at i))

-- A loop of the search that has passed the numbers below i: no test applied, and nothing is found.
pub record Passed (test : ℕ → Bool) (i : ℕ) (found : Option ℕ) : Type 0 where
  pub none : any i test ≡ false
  pub kept : found ≡ None

module _ (test : ℕ → Bool) where
  pub passed_none : {found : Option ℕ} → found ≡ None → Passed test 0 found
  passed_none e = record { none = any_zero test; kept = e }

  pub passed_more : {i : ℕ} {found next : Option ℕ} → Passed test i found → test i ≡ false → next ≡ None → Passed test (i + 1) next
  passed_more {i} z e k = record { none = any_still test i z.none e; kept = k }

  pub passed_all : (m : ℕ) {i : ℕ} {found : Option ℕ} → Passed test i found → m ≤ i → any m test ≡ false
  passed_all m {i} z l = none_any test m λ j h. any_none test i z.none j (omega arith)

-- A loop over a row of numbers, of which here is left: no test applied to those before, and nothing is found.
pub record Walked (test : ℕ → Bool) (row here : Range ℕ) (found : Option ℕ) : Type 0 where
  pub passed : Passed test here.start found
  pub last : here.end ≡ row.end
  pub from : row.start ≤ here.start

pub walked_none : (test : ℕ → Bool) {row : Range ℕ} {found : Option ℕ} → any row.start test ≡ false → found ≡ None → Walked test row row found
walked_none test e k = record { passed = record { none = e; kept = k }; last = refl; from = omega arith }

module _ (test : ℕ → Bool) {row here next : Range ℕ} {found : Option ℕ} (z : Walked test row here found) where
  pub walked_inside : (d : ℕ) → nat_range_steps here (Some d) next → d < row.end
  walked_inside d (e, (l, is, n)) = omega (arith, l, is, z.last)

  pub walked_from : (d : ℕ) → nat_range_steps here (Some d) next → row.start ≤ d
  walked_from d (e, (l, is, n)) = omega (arith, is, z.from)

  pub walked_more : (d : ℕ) → nat_range_steps here (Some d) next → test d ≡ false → Walked test row next found
  walked_more d (e, (l, is, n)) b = record { passed = rw n (passed_more test z.passed (rw is at b) z.passed.kept); last = e ∙ z.last; from = omega (arith, n, z.from) }

  pub walked_all : nat_range_steps here None next → any row.end test ≡ false
  walked_all (e, (l, n)) = passed_all test row.end z.passed (omega (arith, l, z.last))

-- What the code has read when axiom i is at hand: m objects, and the axiom x; no axiom before it is broken.
pub record AtHand (s : Signature) (schema state seen : List ℕ) (m i : ℕ) (x : Axiom) : Type 0 where
  pub judged : Judged s schema state seen
  pub objects : m ≡ objects_of state
  pub is : x ≡ (schema_of schema).axiom_at i
  pub here : i < entries schema_layout schema
  pub earlier : any i (broken_at (schema_of schema) (state_of state)) ≡ false

module _ (schema state : List ℕ) where
  first_is : (i : ℕ) → i ≤ entries schema_layout schema → any i (broken_at (schema_of schema) (state_of state)) ≡ false
      → (i < entries schema_layout schema → So (broken_at (schema_of schema) (state_of state) i)) → i ≡ first_broken (schema_of schema) (state_of state)
  unfolding schema_of
  first_is i l e b =
      sym (least_is (broken_at (schema_of schema) (state_of state)) (entries schema_layout schema) i l b (any_none (broken_at (schema_of schema) (state_of state)) i e))

  pub none_first : {n : ℕ} → n ≡ entries schema_layout schema → any n (broken_at (schema_of schema) (state_of state)) ≡ false → None ≡ broken (schema_of schema) (state_of state)
  unfolding broken schema_of
  none_first {n} is e =
      rw (← first_is (entries schema_layout schema) (omega arith) (rw is at e) (λ l. absurd (omega arith)), eq-eqb (entries schema_layout schema) (entries schema_layout schema) refl)

  some_first : (i : ℕ) → i < entries schema_layout schema → i ≡ first_broken (schema_of schema) (state_of state) → Some i ≡ broken (schema_of schema) (state_of state)
  unfolding broken schema_of
  some_first i l e = rw (← e, ne_eqb i (entries schema_layout schema) (omega arith))

module _ {s : Signature} {schema state seen : List ℕ} {m i : ℕ} {x : Axiom} (z : AtHand s schema state seen m i x) where
  pub axiom_named : AxiomInRange x
  axiom_named = rw z.is (axiom_in_range schema z.judged.schema_accepted i z.here)

  pub kinds : KindsRise state
  kinds = kinds_rise s state z.judged.state_accepted

  broken_first : (Holds (state_of state) x → ⊥) → Some i ≡ broken (schema_of schema) (state_of state)
  broken_first h =
      some_first schema state i z.here (first_is schema state i (le_of_lt z.here) z.earlier
      (λ _. not_of_false _ (false_of _ (λ t. h (rw z.is ((holds_iff (state_of state) ((schema_of schema).axiom_at i)).0 t))))))

  pub object_inside : (d : ℕ) → d < objects_asked x m → d < m
  object_inside d l = objects_asked_few x m d l

  pub object_first : (d : ℕ) → d < objects_asked x m → So (object_breaks seen x d) → Some i ≡ broken (schema_of schema) (state_of state)
  object_first d l b = broken_first (object_broken s state seen z.judged.state_accepted z.judged.index x axiom_named d (rw (← z.objects) (object_inside d l)) b)

  pub pair_first : (f : ℕ) → f < entries state_layout state → So (pair_breaks state seen x f) → Some i ≡ broken (schema_of schema) (state_of state)
  pair_first f l b = broken_first (pair_broken s state seen z.judged.state_accepted z.judged.index x axiom_named f l b)

  -- neither an object nor a fact breaks it, as far as it asks about them
  pub axiom_kept : {row : Range ℕ} → any (objects_asked x m) (object_breaks seen x) ≡ false
      → Settled (pair_breaks state seen x) (misplaced state seen x) (entries state_layout state) row → any row.end (pair_breaks state seen x) ≡ false
      → broken_at (schema_of schema) (state_of state) i ≡ false
  axiom_kept o p q =
      let all = objects_asked_all seen x m o in
      ap not ((holds_iff (state_of state) ((schema_of schema).axiom_at i)).1
      (subst (Holds (state_of state)) z.is
      (unbroken s state seen z.judged.state_accepted z.judged.index x axiom_named (rw (← z.objects) all) (p.after q))))
