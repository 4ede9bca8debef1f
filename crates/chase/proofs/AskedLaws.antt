-- What the query asks is of its nodes, and holds under every assignment that fits: its facts, and the ties, in which a mark is one
-- of the nodes at which it stands.
use Prim.Native.Nat.{ℕ, zero, suc, ◌<◌}
use native.Mathlib.Omega.{arith}
use mathlib.Core.Bool.{So, false≢true}
use mathlib.Core.Path.{◌≡◌, refl, sym, ap, ◌∙◌}
use mathlib.Core.List.{List, [], ◌∷◌}
use borrow.Author.Tests.{eqb-true, eq-eqb}
use Rattle.records.specs.State.{State, Member, Related}
use Rattle.records.specs.Helpers.Steps.{concept_steps}
use Rattle.chase.specs.Facts.{Membership, Side, at_node, of_mark, Equation, Edge}
use Rattle.chase.specs.Task.{Task, WellFormed, signature, nodes, start_node, asked, stands, mark_node, Tie, tie, ties}
use Rattle.records.proofs.General.AllLaws.{All, all_map, all_zip, all_mapped}
use Rattle.chase.proofs.FactsLaws.{AllFacts, OnSide, Within, facts_within, side_object}
use Rattle.chase.proofs.Consequence.{Follows}
use Rattle.chase.proofs.TieLaws.{anchor_is, anchor_all}

-- what each entry has under every fitting assignment, each entry has
all_follow : {A : Type 0} (t : Task) (X : State → (ℕ → ℕ) → A → Type 0) (l : List A) → (Follows t λ I g. All (X I g) l)
    → All (λ a. Follows t λ I g. X I g a) l
all_follow t X [] h = tt
all_follow t X (a ∷ l) h = (λ I g fits. (h I g fits).0, all_follow t X l (λ I g fits. (h I g fits).1))

module _ (t : Task) (formed : WellFormed t) where
  pub within : Within t.schema.signature.classes (λ n. n < nodes t) (asked t)
  unfolding asked
  within =
      facts_within (signature t) (suc (concept_steps t.query)) (λ n. n < nodes t) (λ a h. omega arith) t.query
      (concept_steps t.query) zero
      formed.query (omega arith) (λ j h k. omega arith)

  follow : AllFacts (λ f. Follows t λ I g. Member I f.class (g f.node))
      (λ f. Follows t λ I g. g f.left ≡ side_object I g f.right)
      (λ f. Follows t λ I g. Related I f.attribute (g f.origin) (g f.target)) (asked t)
  follow =
      record {
        members = all_follow t (λ I g f. Member I f.class (g f.node)) (asked t).members (λ I g fits. fits.meets.members);
        equations = all_follow t (λ I g f. g f.left ≡ side_object I g f.right) (asked t).equations (λ I g fits. fits.meets.equations);
        edges = all_follow t (λ I g f. Related I f.attribute (g f.origin) (g f.target)) (asked t).edges
            (λ I g fits. fits.meets.edges);
      }

  -- the query's facts: of nodes, and following
  abbrev IsEquation : Equation → Type 0
  IsEquation f =
      (f.left < nodes t) × OnSide (λ n. n < nodes t) f.right × (Follows t λ I g. g f.left ≡ side_object I g f.right)

  are_equations : All IsEquation (asked t).equations
  are_equations = all_zip (λ f w h. (w.0, w.1, h)) (asked t).equations within.equations follow.equations

  pub mark_inside : (k : ℕ) → mark_node t k < nodes t
  unfolding mark_node
  mark_inside k =
      anchor_is (λ n. n < nodes t) k (asked t).equations (start_node t) (all_map (λ f w s. w.0) (asked t).equations within.equations)
      (omega arith)

  -- the node of a mark that stands somewhere is the mark's object
  marks_met : All (λ f. Follows t λ I g. (k : ℕ) → So (stands k f) → g (mark_node t k) ≡ I.marks k) (asked t).equations
  unfolding mark_node
  marks_met =
      all_follow t (λ I g f. (k : ℕ) → So (stands k f) → g (mark_node t k) ≡ I.marks k) (asked t).equations λ I g fits.
      anchor_all (λ k n. g n ≡ I.marks k) (asked t).equations (λ k. start_node t)
      (all_map (λ f e k s. standing I g k f.left f.right e s) (asked t).equations fits.meets.equations)
    where
      standing : (I : State) (g : ℕ → ℕ) (k n : ℕ) (m : Side) → g n ≡ side_object I g m → So (stands k record { left = n; right = m })
          → g n ≡ I.marks k
      standing I g k n (at_node j) e s = absurd (false≢true s)
      standing I g k n (of_mark j) e s = e ∙ ap I.marks (sym (eqb-true k j s))

  abbrev pub IsTie : Tie → Type 0
  IsTie f = (f.left < nodes t) × (f.right < nodes t) × (Follows t λ I g. g f.left ≡ g f.right)

  pub are_ties : All IsTie (ties t)
  unfolding ties
  are_ties =
      all_mapped IsTie (tie (mark_node t)) (asked t).equations
      (all_zip (λ f k m. is_tie f.left f.right k.0 k.1 k.2 m) (asked t).equations are_equations marks_met)
    where
      is_tie : (n : ℕ) (m : Side) → n < nodes t → OnSide (λ i. i < nodes t) m → (Follows t λ I g. g n ≡ side_object I g m)
          → (Follows t λ I g. (k : ℕ) → So (stands k record { left = n; right = m }) → g (mark_node t k) ≡ I.marks k)
          → IsTie (tie (mark_node t) record { left = n; right = m })
      is_tie n (at_node j) h w e met = (h, w, e)
      is_tie n (of_mark k) h w e met = (h, mark_inside k, λ I g fits. e I g fits ∙ sym (met I g fits k (eq-eqb k k refl)))

  pub ties_inside : All (λ f. (f.left < nodes t) × (f.right < nodes t)) (ties t)
  ties_inside = all_map (λ f k. (k.0, k.1)) (ties t) are_ties

  abbrev pub IsMember : Membership → Type 0
  IsMember f = (f.class < t.schema.signature.classes) × (f.node < nodes t) × (Follows t λ I g. Member I f.class (g f.node))

  pub are_members : All IsMember (asked t).members
  are_members = all_zip (λ f w h. (w.0, w.1, h)) (asked t).members within.members follow.members

  abbrev pub IsEdge : Edge → Type 0
  IsEdge e = (e.origin < nodes t) × (e.target < nodes t) × (Follows t λ I g. Related I e.attribute (g e.origin) (g e.target))

  pub are_edges : All IsEdge (asked t).edges
  are_edges = all_zip (λ e w h. (w.0, w.1, h)) (asked t).edges within.edges follow.edges
