-- The record of a list of facts says what the list has.
use Prim.Native.Nat.{ℕ, ◌<◌}
use mathlib.Core.Bool.{Bool, So}
use mathlib.Core.List.{List}
use mathlib.Core.Logic.{◌↔◌}
use mathlib.Core.Path.{◌≡◌, sym, subst}
use lib.Dec.{eqb}
use lib.ListN.{length, get_or}
use Rattle.records.specs.Finite.{any}
use Rattle.records.specs.Layout.{state_layout, entries}
use Rattle.records.specs.StateRecord.{says, says_pair}
use Rattle.records.specs.Encoding.{right_word, state_record}
use Rattle.records.proofs.General.BoolLaws.{and_iff, and_three_iff}
use Rattle.records.proofs.EncodingLaws.{kind_of, object_in, state_facts, state_right, state_kind, state_object}
use Rattle.records.proofs.ExecutableLaws.{eqb_iff}
use Rattle.records.proofs.General.FiniteLaws.{any_found, any_of_lem}
use Rattle.records.proofs.General.AllLaws.{Mem}
use Rattle.records.proofs.General.ListLaws.{at_mem, mem_at}

module _ (n : ℕ) (l : List ℕ) where
  abbrev w : List ℕ
  w = state_record n l

  -- a search over the facts finds what is in the list
  record_any : {test : ℕ → Bool} {X : ℕ → Type 0} → ((i : ℕ) → i < length l → So (test i) ↔ X (get_or l i 0))
      → So (any (entries state_layout w) test) ↔ ((f : ℕ) × Mem f l × X f)
  record_any {test} {X} h =
      rw (state_facts n l) (
        λ t. let (i, b, p) = any_found test (length l) t in (get_or l i 0, at_mem l i b, (h i b).0 p),
        λ x.
            let (i, b, q) = mem_at x.0 l x.1 in any_of_lem test (length l) i b ((h i b).1 (subst X (sym q) x.2)),
      )

  read_iff : {x y : ℕ} (k : ℕ) → x ≡ y → So (eqb x k) ↔ (y ≡ k)
  read_iff {x} k q = subst (λ (y : ℕ). So (eqb x k) ↔ (y ≡ k)) q (eqb_iff x k)

  pub record_says : (k d : ℕ) → So (says w k d) ↔ ((f : ℕ) × Mem f l × ((kind_of f ≡ k) × (object_in f ≡ d)))
  unfolding says
  record_says k d = record_any λ i h. and_iff (read_iff k (state_kind n l i h)) (read_iff d (state_object n l i h))

  pub record_says_pair : (k d e : ℕ)
      → So (says_pair w k d e) ↔ ((f : ℕ) × Mem f l × ((kind_of f ≡ k) × (object_in f ≡ d) × (right_word f ≡ e)))
  unfolding says_pair
  record_says_pair k d e =
      record_any λ i h. and_three_iff (read_iff k (state_kind n l i h)) (read_iff d (state_object n l i h)) (read_iff e (state_right n l i h))
