-- Select's words on accepted records: a flag for each object tells whether it is selected, and the rest is as it was.
use Prim.Native.Nat.{ℕ, zero, suc, ◌+◌, ◌-◌, ◌≤◌, ◌<◌}
use mathlib.Core.List.{List, [], ◌∷◌, ◌++◌}
use mathlib.Core.Bool.{Bool, true, false, cond}
use mathlib.Core.Path.{◌≡◌, refl, sym, ap, ◌∙◌}
use native.Mathlib.Omega.{arith}
use native.Mathlib.Decide.{dec_lt}
use lib.Dec.{eqb}
use lib.ListN.{length, drop, get_or, get_or-append, length-append, length-drop}
use lib.Seq.{get_or-append-add, get_or-drop}
use Rattle.std.specs.Prelude.{Ok}
use Rattle.records.specs.State.{State}
use Rattle.records.specs.Concept.{Concept}
use Rattle.records.specs.Executable.{is_in}
use Rattle.records.proofs.General.BoolLaws.{false_of}
use Rattle.records.proofs.General.FiniteLaws.{count_same}
use Rattle.records.proofs.ExecutableLaws.{is_in_iff}
use Rattle.judge.specs.Select.{flags, selection}
use Rattle.judge.specs.Exact.{Selected}
use Rattle.judge.proofs.FlagLaws.{flags_length}

module _ (f : ℕ → Bool) where
  flag_at : (n i : ℕ) → i < n → get_or (flags f n) i 0 ≡ cond (f i) 1 0
  unfolding flags
  flag_at zero i l = absurd (omega arith)
  flag_at (suc n) i l =
      elim (dec_lt i n) [
        | yes h ↦ get_or-append (flags f n) _ 0 i (omega (arith, flags_length f n)) ∙ flag_at n i h
        | no h ↦
            let e : i ≡ length (flags f n) + 0 = omega (arith, flags_length f n) in
            let q : i ≡ n = omega arith in
            ap (λ (k : ℕ). get_or (flags f n ++ (cond (f n) 1 0 ∷ [])) k 0) e
            ∙ get_or-append-add (flags f n) (cond (f n) 1 0 ∷ []) 0 0 ∙ ap (λ (k : ℕ). cond (f k) 1 0) (sym q)
      ]

flag_one : (b : Bool) → b ≡ eqb (cond b 1 0) 1
flag_one true = refl
flag_one false = refl

module _ (I : State) (C : Concept) (lent : List ℕ) (room : I.size ≤ length lent) where
  abbrev words : List ℕ
  words = flags (is_in I C) I.size ++ drop I.size lent

  word_at : (i : ℕ) → i < I.size → get_or words i 0 ≡ cond (is_in I C i) 1 0
  word_at i l = get_or-append (flags (is_in I C) I.size) _ 0 i (omega (arith, flags_length (is_in I C) I.size)) ∙ flag_at (is_in I C) I.size i l

  word_later : (i : ℕ) → I.size ≤ i → get_or words i 0 ≡ get_or lent i 0
  word_later i l =
      let e : i ≡ length (flags (is_in I C) I.size) + (i - I.size) = omega (arith, flags_length (is_in I C) I.size) in
      let q : I.size + (i - I.size) ≡ i = omega arith in
      ap (λ (k : ℕ). get_or words k 0) e
      ∙ get_or-append-add (flags (is_in I C) I.size) (drop I.size lent) (i - I.size) 0
      ∙ get_or-drop I.size lent (i - I.size) 0 ∙ ap (λ (k : ℕ). get_or lent k 0) q

  pub selection_selected : Selected I C lent (selection I C lent).answer (selection I C lent).words
  unfolding selection
  selection_selected =
      record {
        chosen = λ i s. word_at i s.0 ∙ rw ((is_in_iff I C i).1 s.1);
        others = λ i l n. word_at i l ∙ rw (false_of (is_in I C i) (λ t. n (l, (is_in_iff I C i).0 t)));
        later = word_later;
        kept = simp (length-append, length-drop) (omega (arith, flags_length (is_in I C) I.size));
        counted =
            ap Ok
            (count_same (is_in I C) (λ i. eqb (get_or words i 0) 1) I.size
            (λ i l. flag_one (is_in I C i) ∙ ap (λ (k : ℕ). eqb k 1) (sym (word_at i l))));
      }
