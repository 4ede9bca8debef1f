-- What the two counts of links mean (specs/Exact.antt), for any words: by_first_exact and by_second_exact. The links are the cells
-- of a table that pass, and cells that pass are numbered in their order.
use Prim.Native.Nat.{ℕ, zero, suc, ◌+◌, ◌*◌, ◌/◌, ◌%◌, ◌<◌}
use mathlib.Core.Bool.{Bool, So, ◌&&◌}
use mathlib.Core.List.{List}
use mathlib.Core.Path.{◌≡◌, sym, ap, ap₂, subst, ◌∙◌}
use native.Mathlib.Nat.{mod-lt, div-lt_iff_lt-mul, div-add-mod', zero-mul}
use native.Mathlib.Omega.{arith}
use Rattle.std.specs.Prelude.{Ok, Err}
use Rattle.records.specs.Finite.{count}
use Rattle.records.specs.State.{State}
use Rattle.records.specs.Concept.{Concept}
use Rattle.records.specs.Executable.{is_in}
use Rattle.records.specs.ConceptRecord.{concept_of}
use Rattle.records.specs.StateRecord.{state_of}
use Rattle.records.proofs.General.BoolLaws.{and_left, and_right, and_both}
use Rattle.records.proofs.General.CountLaws.{pick, pick_is, count_lt, count_injective}
use Rattle.records.proofs.General.TableLaws.{cell_row, cell_column, cell_inside, count_cells}
use Rattle.records.proofs.ExecutableLaws.{is_in_iff}
use Rattle.records.proofs.OutcomeLaws.{outcome_refused, outcome_answered}
use Rattle.links.specs.Links.{links_by_first, links_refusals, by_first_answer, by_second_answer}
use Rattle.links.specs.Exact.{Link, Numbered, LinksExact}
use Rattle.links.proofs.LinkLaws.{by_rows, answers_agree}

module _ (I : State) (C : Concept) (P : ℕ) where
  -- cell t of the table of links
  abbrev cell : ℕ → Bool
  cell t = is_in I C (t / I.size) && I.pairs P (t / I.size) (t % I.size)

  abbrev cells : ℕ
  cells = I.size * I.size

  some_object : (t : ℕ) → t < cells → 0 < I.size
  some_object t = go I.size
    where
      go : (n : ℕ) → t < n * n → 0 < n
      go zero h = absurd (omega (arith, zero-mul 0))
      go (suc n) h = omega arith

  cell_link : (t : ℕ) → t < cells → So (cell t) → Link I C P (t / I.size) (t % I.size)
  cell_link t h p =
      record {
        selected = ((div-lt_iff_lt-mul (some_object t h)).1 h, (is_in_iff I C (t / I.size)).0 (and_left _ _ p));
        inside = mod-lt t (some_object t h);
        related = and_right (is_in I C (t / I.size)) _ p;
      }

  link_cell : (d e : ℕ) → Link I C P d e → So (cell (d * I.size + e))
  link_cell d e l =
      rw (cell_row I.size d e l.inside, cell_column I.size d e l.inside)
      (and_both (is_in I C d) _ ((is_in_iff I C d).1 l.selected.1) l.related)

  -- the cell of a number, and the number of a cell
  abbrev at : ℕ → ℕ
  at i = pick cell cells i

  at_is : (i : ℕ) → i < count cells cell → (at i < cells) × So (cell (at i)) × (count (at i) cell ≡ i)
  at_is i h = pick_is cell cells i h

  at_count : (t : ℕ) → t < cells → So (cell t) → at (count t cell) ≡ t
  at_count t h p =
      let a = at_is (count t cell) (count_lt cell cells t h p) in
      count_injective cell (at (count t cell)) t a.1 p a.2

  numbered_cells : Numbered I C P (count cells cell)
  numbered_cells =
      record {
        first = λ i. at i / I.size;
        second = λ i. at i % I.size;
        links = λ i h. cell_link (at i) (at_is i h).0 (at_is i h).1;
        all = λ d e l.
            let t = d * I.size + e in
            let inside = cell_inside I.size d e l.inside I.size l.selected.0 in
            let p = link_cell d e l in
            let q = at_count t inside p in (
              count t cell,
              count_lt cell cells t inside p,
              (ap (λ (k : ℕ). k / I.size) q ∙ cell_row I.size d e l.inside, ap (λ (k : ℕ). k % I.size) q ∙ cell_column I.size d e l.inside),
            );
        once = λ i j h k a b.
            let same = sym (div-add-mod' (at i) I.size) ∙ ap₂ (λ (r s : ℕ). r * I.size + s) a b ∙ div-add-mod' (at j) I.size in
            sym (at_is i h).2 ∙ ap (λ (t : ℕ). count t cell) same ∙ (at_is j k).2;
      }

  numbered : Numbered I C P (links_by_first I C P)
  numbered = subst (Numbered I C P) (count_cells (λ d e. is_in I C d && I.pairs P d e) I.size I.size ∙ sym (by_rows I C P)) numbered_cells

module _ (schema concept state : List ℕ) (P : ℕ) where
  pub by_first_exact : LinksExact schema concept state P (by_first_answer schema concept state P)
  by_first_exact =
      let n = links_by_first (state_of state) (concept_of concept) P in
      record {
        refused = λ r. outcome_refused Err (Ok n) (links_refusals schema concept state P);
        answered = λ z. (
          n,
          outcome_answered Err (Ok n) (links_refusals schema concept state P) z,
          numbered (state_of state) (concept_of concept) P,
        );
      }

  pub by_second_exact : LinksExact schema concept state P (by_second_answer schema concept state P)
  by_second_exact = subst (LinksExact schema concept state P) (answers_agree schema concept state P) by_first_exact
