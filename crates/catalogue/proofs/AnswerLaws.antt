-- What each entry answers to any words: by the first refusal that applies, or by the rows.
use Prim.Native.Nat.{ℕ}
use mathlib.Core.Bool.{Bool, true, false, ◌&&◌}
use mathlib.Core.List.{List}
use mathlib.Core.Path.{◌≡◌, refl, sym, ap, ◌∙◌}
use Rattle.std.specs.Prelude.{Option, Some, None, Result, Ok, Err}
use Rattle.std.proofs.lemmas.Option.{none-some}
use Rattle.records.specs.declared.refusal.Refusal.{Refusal}
use borrow.Author.Tests.{lt-ltb}
use lib.Dec.{ltb}
use Rattle.records.specs.CatalogueRecord.{views}
use Rattle.records.specs.CatalogueRefusal.{catalogue_refusals}
use Rattle.records.specs.Outcome.{refused_or, outcome}
use Rattle.records.specs.Refusal.{refusal_in}
use Rattle.records.proofs.OutcomeLaws.{first_passed, passed_schema}
use Rattle.catalogue.specs.declared.arrange.Order.{Order}
use Rattle.catalogue.specs.Order.{held_at}
use Rattle.catalogue.specs.Answers.{refusal_of, checked, Table, Verdicts, Words, Arranged, Ordering}
use Rattle.catalogue.specs.Helpers.{in_row, Accepted, HeldRows}

answered : (a : Result (Unit {0}) Refusal) → refusal_in a ≡ None → a ≡ Ok tt
answered (Ok x) e = refl
answered (Err r) e = absurd (none-some r (sym e))

module _ (schema w : List ℕ) where
  pub accepted_of : refusal_of schema w ≡ None → Accepted schema w
  accepted_of e =
      let p = first_passed (catalogue_refusals schema w) e in
      record { schema_accepted = passed_schema schema p.0; catalogue_accepted = answered _ p.1.0 }

  -- what the check answered
  pub refusal_checked : refusal_of schema w ≡ refusal_in (checked schema w)
  unfolding outcome
  refusal_checked = pick (refusal_of schema w)
    where
      pick : (o : Option Refusal) → o ≡ refusal_in (refused_or {A = Result (Unit {0}) Refusal} Err (Ok tt) o)
      pick None = refl
      pick (Some r) = refl

  -- the rows as words: what they have is inside
  pub rows_words : (rows : List ℕ) → HeldRows schema w rows → Words (held_at (views w) (in_row rows)) rows
  rows_words rows h = record { size = h.size; digits = λ i j _. digit i j (in_row rows i j) refl }
    where
      pick : (a b : Bool) → false ≡ (a && (b && false))
      pick true true = refl
      pick true false = refl
      pick false b = refl

      digit : (i j : ℕ) (b : Bool) → in_row rows i j ≡ b → b ≡ (ltb i (views w) && (ltb j (views w) && b))
      digit i j true e = let x = h.inside i j e in sym (rw (lt-ltb i (views w) x.0, lt-ltb j (views w) x.1) refl)
      digit i j false e = pick (ltb i (views w)) (ltb j (views w))

  module _ {r : Refusal} (e : checked schema w ≡ Err r) where
    first_is : refusal_of schema w ≡ Some r
    first_is = refusal_checked ∙ ap refusal_in e

    pub verdicts_refused : Verdicts schema w (Err r)
    verdicts_refused = let first = first_is in record { refused = λ q f. cc; decided = λ n. absurd (none-some r (sym n ∙ first)) }

    pub order_refused : Ordering schema w (Err r)
    order_refused = let first = first_is in record { refused = λ q f. cc; decided = λ n. absurd (none-some r (sym n ∙ first)) }

  module _ (e : checked schema w ≡ Ok tt) where
    none_is : refusal_of schema w ≡ None
    none_is = refusal_checked ∙ ap refusal_in e

    pub checked_accepted : Accepted schema w
    checked_accepted = accepted_of none_is

    -- by the rows
    module _ (rows : List ℕ) (h : HeldRows schema w rows) where
      pub verdicts_decided : (t : List (List Bool)) → Table (held_at (views w) (in_row rows)) t → Verdicts schema w (Ok t)
      verdicts_decided t x =
          record { refused = λ r f. absurd (none-some r (sym none_is ∙ f)); decided = λ _. (t, refl, in_row rows, h.tells, x) }

      pub order_decided : (o : Order) → Arranged (views w) (in_row rows) o → Ordering schema w (Ok o)
      order_decided o x =
          record { refused = λ r f. absurd (none-some r (sym none_is ∙ f)); decided = λ _. (o, refl, in_row rows, h.tells, x) }
