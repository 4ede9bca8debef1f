-- The two counts of links agree: in every state for every concept and attribute (links_agree), and so do the answers of the two
-- entries to any words, refusals included (answers_agree).
use Prim.Native.Nat.{ℕ}
use mathlib.Core.Bool.{Bool, true, false, cond, ◌&&◌}
use mathlib.Core.List.{List}
use mathlib.Core.Path.{◌≡◌, refl, sym, ap, ◌∙◌}
use Rattle.std.specs.Prelude.{Ok, Err}
use Rattle.records.specs.Finite.{count, sum}
use Rattle.records.specs.State.{State}
use Rattle.records.specs.Concept.{Concept}
use Rattle.records.specs.Executable.{is_in}
use Rattle.records.specs.ConceptRecord.{concept_of}
use Rattle.records.specs.StateRecord.{state_of}
use Rattle.records.specs.Outcome.{outcome}
use Rattle.records.proofs.General.FiniteLaws.{none_count}
use Rattle.records.proofs.General.SumLaws.{sum_same, count_swap}
use Rattle.links.specs.Links.{links_by_first, links_by_second, links_refusals, by_first_answer, by_second_answer}

-- counted only under a condition
count_if : (b : Bool) (f : ℕ → Bool) (n : ℕ) → cond b (count n f) 0 ≡ count n (λ e. b && f e)
count_if true f n = refl
count_if false f n = sym (none_count (λ e. false) n (λ e l. refl))

-- The links are a table, with a row for each first object and a column for each second one.

module _ (I : State) (C : Concept) (P : ℕ) where
  pub by_rows : links_by_first I C P ≡ sum I.size (λ d. count I.size λ e. is_in I C d && I.pairs P d e)
  unfolding links_by_first
  by_rows = sum_same _ _ I.size (λ d l. count_if (is_in I C d) (I.pairs P d) I.size)

  pub links_agree : links_by_first I C P ≡ links_by_second I C P
  unfolding links_by_second
  links_agree = by_rows ∙ count_swap (λ d e. is_in I C d && I.pairs P d e) I.size I.size

pub answers_agree : (schema concept state : List ℕ) (P : ℕ) → by_first_answer schema concept state P ≡ by_second_answer schema concept state P
answers_agree schema concept state P =
    ap (λ (n : ℕ). outcome Err (links_refusals schema concept state P) (Ok n)) (links_agree (state_of state) (concept_of concept) P)
