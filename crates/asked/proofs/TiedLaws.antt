-- The words of an accepted query's equations, as ties.
use Prim.Native.Nat.{ℕ, ◌+◌, ◌<◌}
use native.Mathlib.Omega.{arith}
use mathlib.Core.List.{List, [], ◌++◌, map}
use mathlib.Core.Path.{◌≡◌, ap, ap₂, ◌∙◌}
use lib.ListN.{length, get_or, drop, length-append, length-drop, length-map}
use lib.Seq.{length-take-le, take_at}
use Rattle.records.specs.Layout.{query_steps}
use Rattle.records.specs.Outcome.{query_signature}
use Rattle.records.specs.SchemaRefusal.{AcceptedSchema}
use Rattle.records.specs.ConceptRefusal.{AcceptedConcept}
use Rattle.chase.specs.Bounds.{max_nodes}
use Rattle.chase.specs.Facts.{Equation}
use Rattle.chase.specs.Task.{nodes, anchor, mark_node, tie, ties, task_of}
use Rattle.chase.proofs.AcceptanceLaws.{accepted_formed}
use Rattle.chase.proofs.AskedLaws.{within}
use Rattle.chase.proofs.FactsLaws.{OnSide}
use Rattle.primary.specs.Asked.{query_task}
use Rattle.primary.specs.Words.{part, tie_of}
use Rattle.primary.proofs.SettleLaws.{nodes_few, words_in}
use Rattle.asked.specs.declared.words.Kind.TheVariants.{Equations}
use Rattle.asked.specs.declared.words.Words.{Words}
use Rattle.asked.specs.Listed.{equation_of, listed}
use Rattle.asked.specs.Answer.{Asked, IsTied}
use Rattle.asked.specs.Marked.{LeftsIn, Anchored, Small, tie_word}
use Rattle.asked.proofs.AskedLaws.{start_is}
use Rattle.asked.proofs.TieLaws.{words_ties}

module _ (s q : List ℕ) (legal : AcceptedSchema s) (sound : AcceptedConcept query_steps (query_signature s) q) where
  pub start_small : {a : ℕ} → a ≡ get_or q 1 0 → a < part
  unfolding task_of
  start_small e = omega (arith, start_is s q legal sound e, nodes_few s q legal sound)

  module _ (x : Words) (a : Asked s q Equations x) where
    pub lefts_in : LeftsIn (listed x)
    lefts_in i h =
        omega (
          arith,
          (words_in (λ f. (f.left < nodes (query_task s q)) × OnSide (λ n. n < nodes (query_task s q)) f.right) equation_of (listed x) _ a.says
              (within (query_task s q) (accepted_formed s q [] legal sound)).equations i h).0,
          nodes_few s q legal sound,
        )

    pub listed_length : length (listed x) ≡ x.count
    listed_length = length-take-le x.count x.words (omega (arith, a.count, a.size))

    pub tied_by : (start : ℕ) (found : List ℕ) → start ≡ get_or q 1 0 → Anchored start (listed x) found → Small found
        → IsTied s q (record { ties = record { count = x.count; words = map (tie_word found) (listed x) ++ drop x.count x.words }; nodes = found })
    unfolding ties mark_node task_of
    tied_by start found e z small =
        record {
          count = a.count;
          size = omega (
            arith,
            length-append (map (tie_word found) (listed x)) (drop x.count x.words),
            many,
            length-drop x.count x.words,
            a.count,
            a.size,
          );
          says =
              ap (map tie_of) (take_at (map (tie_word found) (listed x)) (drop x.count x.words) x.count many)
              ∙ words_ties found small (mark_node (query_task s q)) is (listed x) ∙ ap (map (tie (mark_node (query_task s q)))) a.says;
          room = z.room;
          marks = is;
        }
      where
        many : length (map (tie_word found) (listed x)) ≡ x.count
        many = length-map (listed x) (tie_word found) ∙ listed_length

        is : (k : ℕ) → max_nodes + k < part → get_or found (max_nodes + k) 0 ≡ mark_node (query_task s q) k
        is k h = z.value k h ∙ ap₂ (λ (d : ℕ) (l : List Equation). anchor d l k) (start_is s q legal sound e) a.says
