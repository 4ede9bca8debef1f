-- From the closed primary part of a query to the candidate: the ground is laid, the view is walked, the objects are counted,
-- and each is the model's.
use Prim.Native.Nat.{ℕ, suc, ◌-◌, ◌≤◌}
use mathlib.Core.Bool.{Bool, false}
use mathlib.Core.List.{List, [], ◌++◌, map}
use mathlib.Core.Path.{◌≡◌, refl, sym, ap, ap₂, subst, ◌∙◌}
use native.Mathlib.Omega.{arith}
use lib.ListN.{length, drop, length-append, length-drop, length-map}
use lib.Seq.{take_at}
use Rattle.records.specs.declared.schema.Signature.{Signature}
use Rattle.records.specs.Layout.{max_tokens, query_steps}
use Rattle.records.specs.SchemaRecord.{signature_of, schema_of}
use Rattle.records.specs.ConceptRecord.{concept_of}
use Rattle.records.proofs.General.FiniteLaws.{count_le}
use Rattle.records.specs.Helpers.Steps.{concept_steps}
use Rattle.records.specs.Helpers.Triple.{Triple}
use Rattle.chase.specs.Task.{start_node, nodes, asked, mark_node, task_of}
use Rattle.chase.specs.Primary.{primary, clash}
use Rattle.chase.specs.Ground.{live, ground}
use Rattle.chase.specs.Candidate.{objects, forest}
use Rattle.chase.specs.Written.{facts}
use Rattle.chase.proofs.AcceptanceLaws.{Within, accepted_formed, accepted_within}
use Rattle.chase.proofs.AskedLaws.{mark_inside}
use Rattle.chase.proofs.PairLaws.{asked_edges}
use Rattle.primary.specs.Formed.{prime, Becomes}
use Rattle.chase.specs.Bounds.{max_nodes}
use Rattle.primary.specs.Words.{edge_of}
use Rattle.primary.specs.Clash.{clashes_in}
use Rattle.primary.specs.Asked.{query_task}
use Rattle.primary.proofs.SettleLaws.{primary_view, nodes_few}
use Rattle.primary.proofs.BeginLaws.{clash_is}
use Rattle.ground.specs.Numbers.{object_in, renumber_in}
use Rattle.ground.specs.Objects.{ground_in, forest_in}
use Rattle.ground.specs.Agrees.{Agrees}
use Rattle.ground.specs.Laying.{Grounds}
use Rattle.ground.proofs.GroundLaws.{ground_agrees, mark_object, start_object, grounds_laid, sets_fit}
use Rattle.forest.specs.Kept.{Kept}
use Rattle.forest.specs.Walking.{Walks}
use Rattle.forest.proofs.SameLaws.{same_after, walks_same}
use Rattle.candidate.specs.Facts.{facts_in}
use Rattle.candidate.specs.Ready.{Ready}
use Rattle.candidate.specs.declared.number.Sizes.{Sizes}
use Rattle.candidate.specs.declared.marks.Marks.{Marks}
use Rattle.candidate.specs.declared.marks.Shape.{Shape}
use Rattle.candidate.proofs.AgreeLaws.{objects_are, objects_few, facts_are, marks_are}
use Rattle.construct.specs.Arrays.{constants_from, listing, Arrays, Marked, BuiltArrays}
use Rattle.construct.specs.Closed.{Pair, Closed, MarksOf, Laid}

pub pair_of : {s q v : List ℕ} → Triple s q v → Pair s q
pair_of ok = record { schema_accepted = ok.schema_accepted; query_accepted = ok.query_accepted }

module _ (s q v : List ℕ) (ok : Triple s q v) (r l : List ℕ)
    (z : Becomes (nodes (query_task s q)) r l (primary (query_task s q))) where
  within : Within (task_of s q v)
  within = accepted_within s q v ok.schema_accepted ok.query_accepted ok.view_accepted

  reps_nodes : length r ≡ nodes (task_of s q v)
  unfolding task_of
  reps_nodes = z.size

  pub reps_few : length r ≤ max_nodes
  reps_few = omega (arith, z.size, nodes_few s q ok.schema_accepted ok.query_accepted)

  pub constants_inside : (signature_of s).constants ≤ length r
  unfolding task_of schema_of
  constants_inside = omega (arith, z.size)

  first_is : length r - (signature_of s).constants ≡ suc (concept_steps (task_of s q v).query)
  unfolding task_of schema_of
  first_is = omega (arith, z.size)

  prime_is : prime r l ≡ primary (task_of s q v)
  prime_is = z.value ∙ sym (primary_view s q v)

  -- a clash is found where the constants' nodes stand
  pub clashes_are : (first : ℕ) (k : Signature) → first ≡ length r - (signature_of s).constants → k ≡ signature_of s → (b : Bool)
      → b ≡ clashes_in k r first → b ≡ clash (task_of s q v)
  unfolding task_of schema_of
  clashes_are first k e f b h = h ∙ rw (e ∙ first_is, f) (clash_is (task_of s q v) r l prime_is)

  -- the marks are the task's
  pub marked_by : (m : Marks) → MarksOf s q m → Marked (task_of s q v) r m
  unfolding task_of asked mark_node
  marked_by m a =
      record {
        used = a.used;
        nodes =
            record {
              room = a.room;
              inside = λ k h.
                  omega (arith, a.nodes k h, mark_inside (query_task s q) (accepted_formed s q [] ok.schema_accepted ok.query_accepted) k, z.size);
            };
        objects = λ k h. ap (object_in r) (a.nodes k h) ∙ mark_object (task_of s q v) r l prime_is k;
      }

-- the ground is laid, and the edges are renumbered
pub laid_by : {s q r l es fs words : List ℕ} {g : ℕ} → Closed s q r l es → Grounds (prime r l) (length r) g words
    → map edge_of fs ≡ map (renumber_in r) (map edge_of es) → Laid s q r l fs words g
laid_by {r = r} z ground e = record { prime = z.prime; ground = ground; edges = e ∙ ap (map (renumber_in r)) z.edges }

module _ (s q v : List ℕ) (ok : Triple s q v) (r l es words : List ℕ) (g : ℕ) (laid : Laid s q r l es words g) where
  abbrev inside : Within (task_of s q v)
  inside = within s q v ok r l laid.prime

  agrees : Agrees (ground_in g words es) (ground (task_of s q v))
  unfolding task_of asked
  agrees =
      ground_agrees (task_of s q v) r l (prime_is s q v ok r l laid.prime) g words es (reps_nodes s q v ok r l laid.prime)
      laid.ground laid.edges

  pub ground_few : g ≤ max_nodes
  ground_few = omega (arith, laid.ground.number, count_le (live (prime r l)) (length r), reps_few s q v ok r l laid.prime)

  pub ground_kept : Kept g g words
  ground_kept =
      record {
        laid = grounds_laid (prime r l) (length r) g words (reps_few s q v ok r l laid.prime) laid.ground;
        sets = sets_fit (task_of s q v) inside.formed g words es agrees inside.classes
            (omega (arith, laid.ground.room, ground_few));
        makers = λ e a b. absurd (omega arith);
      }

  edges_few : length es ≤ query_steps
  unfolding task_of asked
  edges_few =
      omega (
        arith,
        length-map es edge_of,
        ap length laid.edges,
        length-map (asked (query_task s q)).edges (renumber_in r),
        asked_edges (task_of s q v),
        inside.query,
      )

  -- the view is walked
  module _ (n : ℕ) (after : List ℕ) (walked : Walks s v es words g after n) where
    agrees_after : Agrees (ground_in g after es) (ground (task_of s q v))
    agrees_after = same_after g words es (ground (task_of s q v)) agrees after walked.ground

    made : forest_in g n after ≡ forest (task_of s q v)
    unfolding task_of forest
    made = walked.value ∙ walks_same agrees (schema_of s) (concept_of v)

    schema_is : schema_of s ≡ (task_of s q v).schema
    unfolding task_of
    schema_is = refl

    -- the objects are counted
    module _ (total : ℕ) (counted : total ≡ objects (schema_of s) (ground_in g after es) (forest_in g n after)) where
      abbrev sizes : Sizes
      sizes = record { ground = g; made = n; total = total }

      ready : Ready s r (constants_from s r) es after (record { ground = g; made = n; total = total })
      unfolding schema_of
      ready =
          record {
            legal = ok.schema_accepted;
            kept = walked.kept;
            number = counted;
            small = omega (
              arith,
              counted,
              objects_few (task_of s q v) s es after g n schema_is agrees_after made inside.formed inside.query inside.view
                  inside.constants,
            );
            inside = laid.prime.formed.inside;
            nodes = reps_few s q v ok r l laid.prime;
            constants = omega (arith, constants_inside s q v ok r l laid.prime);
          }

      pub arrays_by : Arrays (task_of s q v) s r es after (record { ground = g; made = n; total = total })
      arrays_by =
          let from = first_is s q v ok r l laid.prime in
          let start : constants_from s r - 1 ≡ start_node (task_of s q v) = omega (arith, from) in
          record {
            ready = ready;
            few = edges_few;
            begins = omega (arith, from);
            start = ap (object_in r) start ∙ start_object (task_of s q v) r l (prime_is s q v ok r l laid.prime);
            size = counted ∙ objects_are (task_of s q v) s es after g n schema_is agrees_after made;
            facts_are =
                ap (λ (i : ℕ). facts_in s r i es g n after) from
                ∙ facts_are (task_of s q v) s es after g n schema_is agrees_after made r l (prime_is s q v ok r l laid.prime);
          }

-- the edges in an array whose first words they are
pub built_open : (s q v r words : List ℕ) (z : Sizes) (m : Marks) (es old : List ℕ) (k : ℕ) → clash (task_of s q v) ≡ false
    → Arrays (task_of s q v) s r es words z → Marked (task_of s q v) r m → k ≡ length es → k ≤ max_tokens → length old ≡ max_tokens
    → BuiltArrays s q v r words (record { edges = record { count = k; words = es ++ drop k old }; shape = record { sizes = z; marks = m } })
built_open s q v r words z m es old k apart a marks is count room =
    record {
      apart = apart;
      arrays = subst (λ (l : List ℕ). Arrays (task_of s q v) s r l words z) (sym (take_at es (drop k old) k (sym is))) a;
      count = count;
      room = omega (arith, length-append es (drop k old), length-drop k old, is, count, room);
      marks = marks;
    }

-- all facts are those of the task's candidate
pub listing_is : (s q v r es words : List ℕ) (z : Shape) → Arrays (task_of s q v) s r es words z.sizes → Marked (task_of s q v) r z.marks
    → listing s r es words z ≡ facts (task_of s q v).schema (ground (task_of s q v)) (forest (task_of s q v))
unfolding facts
listing_is s q v r es words z a m =
    ap₂ ◌++◌ a.facts_are
    (marks_are (task_of s q v) r z.marks.nodes z.marks.used (schema_of s).signature m.used m.objects)
