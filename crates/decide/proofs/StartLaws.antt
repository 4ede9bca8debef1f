-- What the judge relies on, and what the helpers promise of the answer and of the lent words.
use Prim.Native.Nat.{ℕ, ◌≤◌, ◌<◌}
use mathlib.Core.List.{List, ◌++◌}
use mathlib.Core.Bool.{false}
use mathlib.Core.Path.{◌≡◌, sym, subst}
use borrow.Author.Tests.{lt-ltb, le-ltb}
use lib.ListN.{length, drop}
use Rattle.std.specs.Prelude.{Some}
use Rattle.records.specs.declared.schema.Signature.{Signature}
use Rattle.records.specs.Layout.{max_state_words}
use Rattle.records.specs.Encoding.{state_record}
use Rattle.judge.specs.Member.{Judgeable}
use Rattle.decide.specs.declared.Witness.{Witness}
use Rattle.decide.specs.Start.{start_inside, start_answer, start_words, Judged}

module _ (view : List ℕ) (n start : ℕ) (facts : List ℕ) where
  -- the record has been written
  pub judgeable : (s : Signature) (w : List ℕ) → w ≡ state_record n facts → Judged view n start facts s → Judgeable s view w start
  judgeable s w e ok =
      subst (λ (v : List ℕ). Judgeable s view v start) (sym e)
      record { view_accepted = ok.view_accepted; state_accepted = ok.state_accepted; inside = ok.inside }

  -- the answer and the lent words where the start is outside, by the room
  module _ (lent : List ℕ) (x : start_inside view n start facts ≡ false) where
    abbrev witness : Witness
    witness = record { objects = n; object = start }

    pub start_short : length lent < max_state_words
        → (Some witness ≡ start_answer view n start facts) × (lent ≡ start_words view n start facts lent)
    start_short h = (rw x, rw (x, lt-ltb (length lent) max_state_words h))

    pub start_written : max_state_words ≤ length lent
        → (Some witness ≡ start_answer view n start facts)
        × (state_record n facts ++ drop (length (state_record n facts)) lent ≡ start_words view n start facts lent)
    start_written h = (rw x, rw (x, le-ltb (length lent) max_state_words h))
