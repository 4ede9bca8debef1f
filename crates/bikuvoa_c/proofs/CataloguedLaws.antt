-- A catalogue as C gets it: words that are copied, and the first refusal.
use Prim.Native.Nat.{ℕ, ◌≤◌, ◌<◌}
use mathlib.Core.Bool.{Bool, false, So, ◌||◌}
use mathlib.Core.List.{List, [], ◌∷◌, ◌++◌}
use mathlib.Core.Logic.{⊎_elim}
use mathlib.Core.Path.{◌≡◌, refl, sym, ap, subst, ◌∙◌}
use native.Mathlib.Decide.{dec_lt}
use native.Mathlib.Omega.{arith}
use borrow.Author.Tests.{lt-ltb, ltb-true, ltb-false}
use lib.Dec.{ltb}
use lib.ListN.{length, drop, length-append, length-drop}
use Rattle.std.specs.Prelude.{Option, Some, None, Result, Ok, Err}
use Rattle.std.proofs.lemmas.Option.{none-some}
use Rattle.records.specs.declared.refusal.Refusal.{Refusal}
use Rattle.records.specs.declared.refusal.Refusal.TheVariants as refusal
use Rattle.records.specs.Layout.{max_views}
use Rattle.records.specs.CatalogueRecord.{views}
use Rattle.records.specs.CatalogueRefusal.{catalogue_refusals}
use Rattle.records.specs.Refusal.{returned}
use Rattle.records.specs.Outcome.{refusal_11, first_refusal, lent_refusal}
use Rattle.records.proofs.General.BoolLaws.{or_true_cases, or_false}
use Rattle.records.proofs.OutcomeLaws.{first_at, first_stays, first_among, first_none, first_passed, lent_passed, answered_zero}
use Rattle.catalogue.specs.declared.arrange.Order.{Order}
use Rattle.catalogue.specs.Answers.{refusal_of, Words, Arranged}
use Rattle.catalogue.specs.Helpers.{in_row, HeldRows}
use Rattle.catalogue.proofs.AnswerLaws.{rows_words}
use Rattle.c_answers.specs.Given.{written as shown}
use Rattle.bikuvoa_c.specs.Catalogued.{catalogued_refusals, Written, Catalogued, Cataloguing, CataloguedTo}

written : {test : ℕ → ℕ → Bool} (words lent : List ℕ) → Words test words → Written test lent (words ++ drop (length words) lent)
written words lent d = record { written = words; digits = d; begins = ap (λ (n : ℕ). words ++ drop n lent) d.size }

same : {r q : Refusal} → ◌≡◌ {A = Option Refusal} (Some r) (Some q) → r ≡ q
same e = cc

ok_refused : {n : ℕ} {r : Refusal} → ◌≡◌ {A = Result ℕ Refusal} (Ok n) (Err r) → ⊥
ok_refused e = cc

-- 11 for words that are too few
lent_short : (lent : List ℕ) → length lent < max_views → lent_refusal max_views lent ≡ Some refusal.LentWords
unfolding refusal_11
lent_short lent h = rw (lt-ltb (length lent) max_views h)

module _ (schema w rows order : List ℕ) where
  abbrev short : Bool
  short = ltb (length rows) max_views || ltb (length order) max_views

  -- a refused call
  turned : {r : Refusal} → first_refusal (catalogued_refusals schema w rows order) ≡ Some r → Cataloguing schema w rows order rows order (Err r)
  turned {r} e =
      record {
        refused = λ q z. (ap Err (same (sym e ∙ z)), refl, refl);
        answered = λ z. absurd (none-some r (sym z ∙ e));
      }

  pub by_records : {r : Refusal} → refusal_of schema w ≡ Some r → Cataloguing schema w rows order rows order (Err r)
  by_records e = turned (first_stays (catalogue_refusals schema w) _ e)

  module _ (passed : refusal_of schema w ≡ None) where
    -- only the arrays are left to be looked at
    left : first_refusal (catalogued_refusals schema w rows order) ≡ first_refusal (lent_refusal max_views rows ∷ lent_refusal max_views order ∷ [])
    left = first_among (catalogue_refusals schema w) _ (first_passed (catalogue_refusals schema w) passed)

    pub by_length : So short → Cataloguing schema w rows order rows order (Err refusal.LentWords)
    by_length h = turned (left ∙ eleven)
      where
        eleven : first_refusal (lent_refusal max_views rows ∷ lent_refusal max_views order ∷ []) ≡ Some refusal.LentWords
        eleven =
            elim (dec_lt (length rows) max_views) [
              | yes l ↦ rw (lent_short rows l) (first_at [] _ refusal.LentWords tt)
              | no m ↦
                  let l = ⊎_elim (λ x. absurd (m (ltb-true (length rows) max_views x))) (ltb-true (length order) max_views) (or_true_cases _ _ h) in
                  rw (lent_short order l) (first_at (lent_refusal max_views rows ∷ []) [] refusal.LentWords (lent_passed max_views rows (omega arith), tt))
            ]

    pub by_rows : short ≡ false → (held : List ℕ) → HeldRows schema w held → (o : Order) → Arranged (views w) (in_row held) o
        → Cataloguing schema w rows order (held ++ drop (length held) rows) (o.groups ++ drop (length o.groups) order) (Ok o.count)
    by_rows h held z o x =
        record {
          refused = λ r e. absurd (none-some r (sym nothing ∙ e));
          answered = λ _. (
            o.count,
            refl,
            record {
              held = in_row held;
              tells = z.tells;
              writes_rows = written held rows (rows_words schema w held z);
              writes_order = written o.groups order x.sets;
              counts = x.number;
            },
          );
        }
      where
        e : (ltb (length rows) max_views ≡ false) × (ltb (length order) max_views ≡ false)
        e = or_false (ltb (length rows) max_views) (ltb (length order) max_views) h

        nothing : first_refusal (catalogued_refusals schema w rows order) ≡ None
        nothing = left ∙ first_none _ (lent_passed max_views rows (ltb-false _ _ e.0), (lent_passed max_views order (ltb-false _ _ e.1), tt))

-- What C reads off the number: after 0 the rows, the order and the number of groups are the catalogue's, and after any other they are
-- as they were.
module _ {schema w rows order : List ℕ} {groups number : ℕ} {rows' order' : List ℕ} {groups' : ℕ}
    (c : CataloguedTo schema w rows order groups number rows' order' groups') where
  abbrev first : Option Refusal
  first = first_refusal (catalogued_refusals schema w rows order)

  pub after_zero : number ≡ 0 → Catalogued schema w rows order rows' order' groups'
  after_zero e = pick first refl
    where
      ok : (n : ℕ) × (c.answer ≡ Ok n)
      ok = answered_zero c.answer (sym c.given.returns ∙ e)

      pick : (o : Option Refusal) → first ≡ o → Catalogued schema w rows order rows' order' groups'
      pick None q =
          let (n, is, made) = c.cataloguing.answered q in
          subst (Catalogued schema w rows order rows' order') (sym (c.given.writes ∙ ap (λ (a : Result ℕ Refusal). shown (λ k. k) a groups) is)) made
      pick (Some r) q = absurd (ok_refused (sym ok.1 ∙ (c.cataloguing.refused r q).0))

  pub after_refusal : (number ≡ 0 → ⊥) → (rows' ≡ rows) × (order' ≡ order) × (groups' ≡ groups)
  after_refusal h = pick first refl
    where
      pick : (o : Option Refusal) → first ≡ o → (rows' ≡ rows) × (order' ≡ order) × (groups' ≡ groups)
      pick None q = absurd (h (c.given.returns ∙ ap returned (c.cataloguing.answered q).1))
      pick (Some r) q =
          let (is, same_rows, same_order) = c.cataloguing.refused r q in
          (same_rows, same_order, c.given.writes ∙ ap (λ (a : Result ℕ Refusal). shown (λ k. k) a groups) is)
