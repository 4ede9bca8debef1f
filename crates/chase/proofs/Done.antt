-- What a finished chase has to be, and what it decides. F is the chase: its objects below m stand for nodes of the query, those
-- from m below u were made, u is the closing object. The candidate is F closed: it is legal and has its start in the query
-- (opened), and if its start is in the view, which has no marks, then every object that the query selects anywhere is in the view
-- (held).
use Prim.Native.Nat.{ℕ, ◌+◌, ◌-◌, ◌≤◌, ◌<◌}
use native.Mathlib.Omega.{arith}
use mathlib.Core.Bool.{Bool, So}
use mathlib.Core.Logic.{⊎_elim}
use mathlib.Core.Path.{◌≡◌, subst, ◌∙◌}
use Rattle.records.specs.State.{State, Member, Related, Names}
use Rattle.records.specs.Schema.{Legal}
use Rattle.records.specs.Semantics.{In, Selects}
use Rattle.records.specs.Subsumption.{Held}
use Rattle.records.specs.Choice.{Unmarked}
use Rattle.chase.specs.Closing.{closed}
use Rattle.chase.specs.Task.{Task, WellFormed, start_node}
use Rattle.chase.proofs.Reflection.{Hom, Covered, in_kept}
use Rattle.chase.proofs.ClosingLaws.{Chased, pair_cases, closed_legal}
use Rattle.chase.proofs.Consequence.{Fits, Follows, fitting}
use Rattle.chase.proofs.Extension.{Made, hom_part, extend_all}

pub record Done (t : Task) (F : State) (lack : ℕ → ℕ → Bool) (m u start : ℕ) (node : ℕ → ℕ) : Type 0 where
  -- legality
  pub constants : Names t.schema.signature F
  pub closes : (P d : ℕ) → d < F.size → So (lack P d) → u < F.size
  pub chased : (i : ℕ) → i < t.schema.axioms → Chased F lack u (t.schema.axiom_at i)
  -- the primary part
  pub order : m ≤ u
  pub room : u ≤ F.size
  pub begins : start < m
  pub embeds : In (closed F lack u) t.query start
  pub root : Follows t λ I g. g (node start) ≡ g (start_node t)
  pub members : (A d : ℕ) → d < m → Member F A d → Follows t λ I g. Member I A (g (node d))
  pub pairs : (P d e : ℕ) → d < m → e < m → Related F P d e → Follows t λ I g. Related I P (g (node d)) (g (node e))
  pub names : (a d : ℕ) → d < m → d ≡ F.names a → Follows t λ I g. g (node d) ≡ I.names a
  -- the made part
  pub made : (k : ℕ) → m ≤ k → k < u → Made t.schema F k
  pub covers : Covered (λ d. d < u) (closed F lack u) t.view start

module _ (t : Task) (F : State) (lack : ℕ → ℕ → Bool) (m u start : ℕ) (node : ℕ → ℕ) (done : Done t F lack m u start node) where
  pub opened : Legal t.schema (closed F lack u) × Selects (closed F lack u) t.query start
  opened = (
    closed_legal t.schema F lack u done.constants done.closes done.chased,
    (omega (arith, done.begins, done.order, done.room), done.embeds),
  )

  module _ (I : State) (g : ℕ → ℕ) (fits : Fits t I g) where
    primary_hom : Hom (λ d. d < m) F I (λ d. g (node d))
    primary_hom =
        record {
          inside = λ d h. fits.assigns.inside (node d);
          members = λ A d h x. done.members A d h x I g fits;
          pairs = λ P d e h k x. done.pairs P d e h k x I g fits;
          names = λ a d h x. done.names a d h x I g fits;
        }

    -- the pairs of the candidate that do not lead to u are those of F
    candidate_hom : (h : ℕ → ℕ) → Hom (λ d. d < u) F I h → Hom (λ d. d < u) (closed F lack u) I h
    candidate_hom h H =
        record {
          inside = H.inside;
          members = H.members;
          pairs = λ P d e x y r. ⊎_elim (H.pairs P d e x y) (λ l. absurd (omega (arith, l.1))) (pair_cases F lack u P d e r);
          names = H.names;
        }

    held_at : Unmarked t.view → In (closed F lack u) t.view start → In I t.view (g (start_node t))
    held_at plain x =
        let e = extend_all t.schema F I fits.legal m (λ d. g (node d)) primary_hom (u - m)
        (λ k a b. done.made k a (omega (arith, done.order))) in
        let H = candidate_hom e.0
        (hom_part (λ d. d < m + (u - m)) (λ d. d < u) F I e.0 (λ d h. omega (arith, done.order)) e.1) in
        subst (In I t.view) (e.2 start done.begins ∙ done.root I g fits)
        (in_kept H t.view start plain (omega (arith, done.begins, done.order)) done.covers x)

  pub held : WellFormed t → Unmarked t.view → In (closed F lack u) t.view start → Held t.schema t.query t.view
  held formed plain x = λ I legal d h q.
      let w = fitting t formed I legal d h q in
      subst (In I t.view) w.2 (held_at I w.0 w.1 plain x)
