-- What the model answers. The candidate is a finished chase (finished), so its start decides: a clash means held, and so does
-- a start in the view, which has no marks; otherwise the candidate is a counterexample. The candidate is small (is_small).
use Prim.Native.Nat.{ℕ, zero, suc, ◌≤◌, ◌<◌}
use native.Mathlib.Omega.{arith}
use native.Mathlib.Decide.{dec_lt}
use mathlib.Core.Bool.{Bool, true, false, So, cond}
use mathlib.Core.List.{[]}
use mathlib.Core.Logic.{⊎_elim}
use mathlib.Core.Path.{◌≡◌, refl, sym, ap, subst, ◌∙◌}
use lib.Dec.{ltb}
use lib.ListN.{get_or-eq_default}
use borrow.Author.Tests.{lt-ltb, ltb-true}
use Rattle.records.specs.Finite.{count}
use Rattle.records.specs.State.{State, Related, repeats}
use Rattle.records.proofs.NamesLaws.{repeats_none}
use Rattle.records.proofs.General.BoolLaws.{not_both, cond_elim, or_left}
use Rattle.records.proofs.General.FiniteLaws.{any_none, count_le, any_found}
use Rattle.records.specs.Schema.{Schema, Legal}
use Rattle.records.specs.Semantics.{In, Selects}
use Rattle.records.specs.Subsumption.{Counterexample, Held}
use Rattle.records.specs.Choice.{Unmarked}
use Rattle.records.specs.Helpers.Steps.{concept_steps}
use Rattle.chase.specs.ClassSet.{has}
use Rattle.chase.specs.Facts.{Side, at_node, of_mark}
use Rattle.chase.specs.Task.{Task, WellFormed, signature, nodes, start_node, constant_node, mark_node, asked, side_node, tie, ties}
use Rattle.chase.specs.Primary.{Prime, rep_of, set_of, primary, clash}
use Rattle.chase.specs.Ground.{Ground, live, object_of, renumber, ground_of, ground}
use Rattle.chase.specs.Forest.{Forest, bare, size, classes_of, lacks}
use Rattle.chase.specs.Candidate.{links, lacking, objects, chased, candidate_of, forest, candidate, first}
use Rattle.records.proofs.General.AllLaws.{all_map, all_zip, all_unmapped}
use Rattle.chase.proofs.ClosureLaws.{needs_sound, image_sound}
use Rattle.chase.proofs.FactsLaws.{side_object, Meets, Assigns, meets_in_lem}
use Rattle.chase.proofs.ClosingLaws.{pair_kept}
use Rattle.chase.proofs.Consequence.{Follows, fitting}
use Rattle.chase.proofs.Extension.{Made}
use Rattle.chase.proofs.Done.{Done, opened, held}
use Rattle.chase.proofs.PrimeLaws.{Ok}
use Rattle.chase.proofs.AskedLaws.{within}
use Rattle.chase.proofs.PrimaryLaws.{Closed, primary_ok, primary_closed}
use Rattle.chase.proofs.GroundLaws.{Grounded, node_of, object_inside, object_set, object_rep, rep_object, grounded}
use Rattle.chase.proofs.ForestLaws.{Grown, ground_size, kid_inside, kid_before, child}
use Rattle.chase.proofs.WalkLaws.{Cov, walks_cover}
use Rattle.chase.proofs.SizeLaws.{walks_size}
use Rattle.chase.proofs.CandidateLaws.{link_elim, edges_linked, ground_classes, pair_is, link_inside, room, closing_room, candidate_chased}
use Rattle.chase.proofs.Coverage.{covered}
use Rattle.chase.specs.Bounds.{max_candidate}
use Rattle.records.specs.Layout.{query_steps, view_steps, max_constants}

module _ (t : Task) (formed : WellFormed t) (G : Ground) (node : ℕ → ℕ) (T : Forest) (ok : Grounded t G node)
    (valid : Grown t.schema G bare T) where
  abbrev S : Schema
  S = t.schema

  abbrev F : State
  F = chased t.schema G T

  -- an object below the closing one is named by declared constants alone
  names_is : (a d : ℕ) → d < size G T → d ≡ F.names a → (a < S.signature.constants) × (d ≡ G.constants a)
  names_is a d h =
      cond_elim (λ v. d ≡ v → (a < S.signature.constants) × (d ≡ G.constants a)) (ltb a S.signature.constants)
      (λ b q. (ltb-true a S.signature.constants b, q)) (λ _ q. absurd (omega (arith, room S G T)))

  pub names_of : (a : ℕ) → a < S.signature.constants → F.names a ≡ G.constants a
  names_of a h = ap (λ (b : Bool). cond b (G.constants a) (objects S G T)) (lt-ltb a S.signature.constants h)

  -- a made object, as the extension asks for it
  made_is : (k : ℕ) → G.objects ≤ k → k < size G T → Made S F k
  made_is k h l =
      let c = child S G valid k h l in
      record {
        maker = c.maker;
        attribute = c.attribute;
        before = c.before;
        needed = λ I legal d hd m. needs_sound S I legal (classes_of S G T c.maker) c.attribute d hd m c.needed;
        forced = λ I legal d hd m e he r A a.
            image_sound S formed.axioms I legal (classes_of S G T c.maker) c.attribute d e hd he m r A
            (subst (λ (s : ℕ). So (has s A)) c.classes a);
        only = λ P d le r. ⊎_elim (λ q. absurd (omega (arith, (link_inside t G node ok P d k q).1))) (c.only P d) (pair_is S G T P d k r);
        leaf = λ P d le r.
            ⊎_elim (λ q. absurd (omega (arith, (link_inside t G node ok P k d q).0)))
            (λ q. absurd (omega (arith, kid_before S G valid P k d q))) (pair_is S G T P k d r);
        unnamed = λ a q. let n = names_is a k l q in omega (arith, n.1, ok.constants a n.0);
      }

  module _ (apart : (a : ℕ) → a < S.signature.constants → repeats S.signature G.constants a ≡ false)
      (embeds : In (candidate_of S G T) t.query G.start) (cov : (p : ℕ) → p < G.objects → Cov S G T t.view p []) where
    done : Done t F (lacks S G T) G.objects (size G T) G.start node
    done =
        record {
          constants =
              record {
                inside = λ a h. omega (arith, names_of a h, ok.constants a h, ground_size G T, room S G T);
                apart = λ a h.
                    repeats_none S.signature F.names G.constants a (λ b l q. sym (names_of b (omega arith)) ∙ q ∙ names_of a h) (apart a h);
              };
          closes = closing_room t formed G node T ok valid;
          chased = candidate_chased t formed G node T ok valid;
          order = ground_size G T;
          room = room S G T;
          begins = ok.start;
          embeds = embeds;
          root = ok.root;
          members = λ A d h a. ok.members A d h (subst (λ (c : ℕ). So (has c A)) (ground_classes S G T d h) a);
          pairs = λ P d e h k r.
              ⊎_elim (link_elim G (λ P d e. Follows t λ I g. Related I P (g (node d)) (g (node e))) ok.pairs P d e)
              (λ q. absurd (omega (arith, (kid_inside S G valid P d e q).0))) (pair_is S G T P d e r);
          names = λ a d h q.
              let n = names_is a d (omega (arith, ground_size G T)) q in
              subst (λ (i : ℕ). Follows t λ I g. g (node i) ≡ I.names a) (sym n.1) (ok.names a n.0);
          made = made_is;
          covers = covered t G node T ok valid t.view cov G.start ok.start;
        }

-- the query's nodes, as objects of the candidate, meet its facts
module _ (t : Task) (formed : WellFormed t) (x : Prime) (ok : Ok t x) (closed : Closed t x) (T : Forest)
    (valid : Grown t.schema (ground_of t x) bare T) where
  abbrev K : State
  K = candidate_of t.schema (ground_of t x) T

  abbrev part : Grounded t (ground_of t x) (node_of t x)
  part = grounded t formed x ok closed

  object_room : (d : ℕ) → d < (ground_of t x).objects → d < K.size
  object_room d h = omega (arith, ground_size (ground_of t x) T, room t.schema (ground_of t x) T)

  object_beyond : (n : ℕ) → nodes t ≤ n → object_of x n ≡ zero
  unfolding object_of rep_of count
  object_beyond n h = ap (λ (r : ℕ). count r (live x)) (get_or-eq_default x.reps 0 (omega (arith, ok.reps)))

  assigns : Assigns (signature t) (suc (concept_steps t.query)) K (object_of x)
  unfolding ground_of
  assigns =
      record {
        inside = λ n.
            elim (dec_lt n (nodes t)) [
              | yes h ↦ object_room (object_of x n) (object_inside t x ok n h)
              | no k ↦ omega (
                arith,
                object_beyond n (omega arith),
                object_room (object_of x (start_node t))
                    (object_inside t x ok (start_node t) (omega arith)),
              )
            ];
        constants = λ a h. sym (names_of t formed (ground_of t x) (node_of t x) T part valid a h);
      }

  object_classes : (n : ℕ) → n < nodes t → classes_of t.schema (ground_of t x) T (object_of x n) ≡ set_of x n
  object_classes n h = ground_classes t.schema (ground_of t x) T (object_of x n) (object_inside t x ok n h) ∙ object_set t x ok n h

  side_object_lem : (m : Side) → side_object K (object_of x) m ≡ object_of x (side_node (mark_node t) m)
  unfolding ground_of
  side_object_lem (at_node n) = refl
  side_object_lem (of_mark k) = refl

  meets : Meets K (object_of x) (asked t)
  unfolding ground_of ties
  meets =
      let G = ground_of t x in
      record {
        members =
            all_zip (λ f w h. subst (λ (c : ℕ). So (has c f.class)) (sym (object_classes f.node w.1)) h) (asked t).members
            (within t formed).members closed.members;
        equations =
            all_map (λ f h. rep_object t x ok f.left (side_node (mark_node t) f.right) h ∙ sym (side_object_lem f.right))
            (asked t).equations (all_unmapped _ (tie (mark_node t)) (asked t).equations closed.ties);
        edges =
            all_map
            (λ f h.
            pair_kept (chased t.schema G T) (lacks t.schema G T) (size G T) f.attribute (object_of x f.origin)
            (object_of x f.target)
            (or_left (links G f.attribute (object_of x f.origin) (object_of x f.target)) _ h))
            (asked t).edges (all_unmapped _ (renumber x) (asked t).edges (edges_linked G));
      }

  embeds : In K t.query (ground_of t x).start
  unfolding ground_of asked
  embeds = meets_in_lem (signature t) (suc (concept_steps t.query)) K (object_of x) assigns t.query (start_node t) zero
      formed.query meets

-- the representative of each constant's node
abbrev rep_at : Task → ℕ → ℕ
rep_at t a = rep_of (primary t) (constant_node t a)

module _ (t : Task) (formed : WellFormed t) where
  constants_apart : clash t ≡ false → (a : ℕ) → a < t.schema.signature.constants → repeats t.schema.signature (ground t).constants a ≡ false
  unfolding clash ground ground_of
  constants_apart n a h =
      repeats_none t.schema.signature (ground t).constants (rep_at t) a
      (λ b l q. object_rep t (primary t) (primary_ok t formed) (constant_node t b) (constant_node t a) (omega arith) (omega arith) q)
      (any_none (repeats t.schema.signature (rep_at t)) t.schema.signature.constants n a h)

  pub ground_is : Grounded t (ground t) (node_of t (primary t))
  unfolding ground
  ground_is = grounded t formed (primary t) (primary_ok t formed) (primary_closed t formed)

  pub forest_is : Grown t.schema (ground t) bare (forest t) ×
      ((p : ℕ) → p < (ground t).objects → Cov t.schema (ground t) (forest t) t.view p [])
  unfolding forest
  forest_is = walks_cover t.schema (ground t) t.view

  query_embeds : In (candidate t) t.query (first t)
  unfolding ground
  query_embeds = embeds t formed (primary t) (primary_ok t formed) (primary_closed t formed) (forest t) forest_is.0

  finished : clash t ≡ false
      → Done t (chased t.schema (ground t) (forest t)) (lacks t.schema (ground t) (forest t)) (ground t).objects
      (size (ground t) (forest t)) (first t) (node_of t (primary t))
  finished n =
      done t formed (ground t) (node_of t (primary t)) (forest t) ground_is forest_is.0 (constants_apart n) query_embeds forest_is.1

  -- no legal state has an object in a query that makes two constants one that are to differ
  pub clash_held : So (clash t) → Held t.schema t.query t.view
  unfolding clash
  clash_held c = λ I legal d h q.
      let w = fitting t formed I legal d h q in
      let g = w.0 in
      let k = any_found (repeats t.schema.signature (rep_at t)) t.schema.signature.constants c in
      let same : (n : ℕ) → n < nodes t → g n ≡ g (rep_of (primary t) n) = (primary_ok t formed).same I g w.1 in
      let named : (b : ℕ) → b < t.schema.signature.constants → I.names b ≡ g (rep_at t b) =
      λ b l. sym (w.1.assigns.constants b l) ∙ same (constant_node t b) (omega arith) in
      absurd
      (not_both _ k.2
      (repeats_none t.schema.signature (rep_at t) I.names k.0 (λ b l e. named b (omega (arith, k.1)) ∙ ap g e ∙ sym (named k.0 k.1))
      (legal.names.apart k.0 k.1)))

  pub says_held : Unmarked t.view → In (candidate t) t.view (first t) → Held t.schema t.query t.view
  says_held plain x = go (clash t) refl
    where
      go : (b : Bool) → clash t ≡ b → Held t.schema t.query t.view
      go true c = clash_held c
      go false n = held t _ _ _ _ _ _ (finished n) formed plain x

  pub candidate_legal : clash t ≡ false → Legal t.schema (candidate t)
  candidate_legal n = (opened t _ _ _ _ _ _ (finished n)).0

  pub start_selected : clash t ≡ false → Selects (candidate t) t.query (first t)
  start_selected n = (opened t _ _ _ _ _ _ (finished n)).1

  pub says_open : clash t ≡ false → (In (candidate t) t.view (first t) → ⊥)
      → Counterexample t.schema t.query t.view (candidate t) (first t)
  says_open n x = record { legal = candidate_legal n; selected = start_selected n; outside = x }

  pub is_small : concept_steps t.query ≤ query_steps → concept_steps t.view ≤ view_steps → t.schema.signature.constants ≤ max_constants
      → (candidate t).size ≤ max_candidate
  unfolding ground ground_of forest objects
  is_small q v c =
      let G = ground t in
      cond_elim (λ n. n ≤ max_candidate) (lacking t.schema G (forest t)) (λ _. bounded) (λ _. omega (arith, bounded))
    where
      bounded : suc (size (ground t) (forest t)) ≤ max_candidate
      bounded = omega (arith, walks_size t.schema (ground t) t.view v, count_le (live (primary t)) (nodes t))
