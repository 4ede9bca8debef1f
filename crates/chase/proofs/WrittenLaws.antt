-- The candidate's record. Its facts are just those of the candidate (facts_list), they are few (facts_few), and so the record
-- is accepted (written_accepted) and stands for a state like the candidate (written_alike).
use Prim.Native.Nat.{ℕ, suc, ◌+◌, ◌≤◌, ◌<◌}
use native.Mathlib.Omega.{arith}
use native.Mathlib.Nat.{mul-le-mul}
use mathlib.Core.Bool.{Bool, false, cond}
use mathlib.Core.List.{List, [], ◌∷◌, ◌++◌}
use mathlib.Core.Logic.{inl, ⊎_elim}
use mathlib.Core.Path.{◌≡◌, refl, sym, ap, subst, ◌∙◌}
use borrow.Author.Tests.{ltb-true}
use lib.ListN.{length, length-append}
use Rattle.records.specs.Layout.{word_part, max_facts, max_state_words, attribute_kinds, constant_kinds, mark_kinds, fact_kinds, max_marks}
use Rattle.records.specs.Marks.{among}
use Rattle.records.specs.State.{Names}
use Rattle.records.specs.Schema.{Schema}
use Rattle.records.specs.StateRecord.{state_of}
use Rattle.records.specs.StateRefusal.{AcceptedState}
use Rattle.records.specs.Encoding.{fact, name_fact, mark_fact}
use Rattle.records.proofs.NamesLaws.{names_allowed}
use Rattle.records.proofs.EncodingLaws.{state_fits, state_objects, state_length}
use Rattle.chase.specs.ClassSet.{has}
use Rattle.chase.specs.Task.{Task, signature}
use Rattle.chase.specs.Primary.{primary, clash}
use Rattle.chase.specs.Ground.{Ground, ground_of, ground}
use Rattle.chase.specs.Forest.{Forest, classes_of}
use Rattle.chase.specs.Candidate.{objects, forest, candidate}
use Rattle.chase.specs.Targets.{targets}
use Rattle.chase.specs.Written.{gather, class_facts, pair_facts, object_facts, name_facts, mark_facts, declared_facts, facts, written}
use Rattle.records.proofs.General.BoolLaws.{cond_elim, and_left}
use Rattle.records.proofs.General.AllLaws.{Mem, all_of, mem_left, mem_right, mem_split, mem_mapped, mem_unmapped}
use Rattle.records.proofs.General.Ascending.{Between, between_none, between_one, between_wider, between_append}
use Rattle.chase.proofs.GroundLaws.{node_of}
use Rattle.chase.proofs.ForestLaws.{ground_size}
use Rattle.chase.proofs.CandidateLaws.{room}
use Rattle.chase.proofs.Answers.{names_of, ground_is, forest_is, candidate_legal, is_small}
use Rattle.chase.proofs.AcceptanceLaws.{Within}
use Rattle.chase.proofs.TargetLaws.{candidate_targets, candidate_ascends, target_inside}
use Rattle.chase.proofs.PairLaws.{ground_edges}
use Rattle.chase.proofs.GatherLaws.{gather_of, gather_is, gather_between, gather_bound}
use Rattle.records.proofs.Alike.{Alike}
use Rattle.records.proofs.FactOf.{FactOf, of_class, of_pair, of_name, of_mark}
use Rattle.chase.proofs.RowLaws.{object_facts_few, fact_between, rows_between}
use Rattle.records.proofs.FactList.{Lists, Limited, list_accepted, list_alike}
use Rattle.chase.specs.Bounds.{max_candidate}

module _ (t : Task) (ok : Within t) where
  abbrev S : Schema
  S = t.schema

  abbrev G : Ground
  G = ground t

  abbrev T : Forest
  T = forest t

  abbrev n : ℕ
  n = objects t.schema (ground t) (forest t)

  objects_few : n ≤ max_candidate
  objects_few = is_small t ok.formed ok.query ok.view ok.constants

  name_of : (a : ℕ) → a < S.signature.constants → (candidate t).names a ≡ G.constants a
  name_of = names_of t ok.formed G (node_of t (primary t)) T (ground_is t ok.formed) (forest_is t ok.formed).0

  name_inside : (a : ℕ) → a < S.signature.constants → G.constants a < n
  name_inside a h =
      omega (arith, (ground_is t ok.formed).constants a h, ground_size G T, room S G T)

  mark_inside : (k : ℕ) → G.marks k < n
  mark_inside k = omega (arith, (ground_is t ok.formed).marks k, ground_size G T, room S G T)

  -- Order.

  class_between : (A d : ℕ) → Between (fact (0 + A) d 0) (fact (0 + A) (suc d) 0) (class_facts S G T A d)
  unfolding class_facts
  class_between A d =
      cond_elim {A = List ℕ} (Between (fact (0 + A) d 0) (fact (0 + A) (suc d) 0)) (has (classes_of S G T d) A)
      (λ _. between_one (fact (0 + A) d 0) (fact (0 + A) (suc d) 0) (fact A d 0) (omega arith) (omega arith))
      (λ _. between_none (fact (0 + A) d 0) (fact (0 + A) (suc d) 0) (omega arith))

  pair_between : (P d : ℕ) → d < n → Between (fact (attribute_kinds + P) d 0) (fact (attribute_kinds + P) (suc d) 0) (pair_facts S G T P d)
  unfolding pair_facts
  pair_between P d h =
      fact_between (attribute_kinds + P) d (targets S G T P d) (candidate_ascends t ok.formed P d)
      (all_of (λ e. e < word_part) (targets S G T P d)
      (λ e m. omega (arith, target_inside t ok.formed P d e h ((candidate_targets t ok.formed P d e).1 m), objects_few)))

  class_part : List ℕ
  class_part = gather S.signature.classes (λ A. gather n (class_facts S G T A))

  pair_part : List ℕ
  pair_part = gather S.signature.attributes (λ P. gather n (pair_facts S G T P))

  name_part : List ℕ
  name_part = gather S.signature.constants (name_facts S G T)

  mark_part : List ℕ
  mark_part = gather max_marks (mark_facts S G T)

  class_part_lem : Between 0 (fact attribute_kinds 0 0) class_part
  unfolding class_part
  class_part_lem =
      between_wider class_part (omega arith) (omega (arith, ok.classes))
      (rows_between 0 S.signature.classes n (class_facts S G T) (omega (arith, objects_few)) (λ A d h k. class_between A d))

  pair_part_lem : Between (fact attribute_kinds 0 0) (fact constant_kinds 0 0) pair_part
  unfolding pair_part
  pair_part_lem =
      between_wider pair_part (omega arith) (omega (arith, ok.attributes))
      (rows_between attribute_kinds S.signature.attributes n (pair_facts S G T) (omega (arith, objects_few))
      (λ P d h k. pair_between P d k))

  name_part_lem : Between (fact constant_kinds 0 0) (fact mark_kinds 0 0) name_part
  unfolding name_part name_facts
  name_part_lem =
      between_wider name_part (omega arith) (omega (arith, ok.constants))
      (gather_between (name_facts S G T) S.signature.constants (λ a. fact (constant_kinds + a) 0 0)
      (λ a h. between_one (fact (constant_kinds + a) 0 0) (fact (constant_kinds + suc a) 0 0) (name_fact a (G.constants a)) (omega arith)
      (omega (arith, name_inside a h, objects_few))))

  mark_part_lem : Between (fact mark_kinds 0 0) (fact fact_kinds 0 0) mark_part
  unfolding mark_part mark_facts
  mark_part_lem =
      between_wider mark_part (omega arith) (omega arith)
      (gather_between (mark_facts S G T) max_marks (λ k. fact (mark_kinds + k) 0 0)
      (λ k h.
      cond_elim {A = List ℕ} (Between (fact (mark_kinds + k) 0 0) (fact (mark_kinds + suc k) 0 0)) (among G.used k)
      (λ _. between_one (fact (mark_kinds + k) 0 0) (fact (mark_kinds + suc k) 0 0) (mark_fact k (G.marks k)) (omega arith)
      (omega (arith, mark_inside k, objects_few)))
      (λ _. between_none (fact (mark_kinds + k) 0 0) (fact (mark_kinds + suc k) 0 0) (omega arith))))

  pub facts_between : Between 0 (fact fact_kinds 0 0) (facts S G T)
  unfolding facts declared_facts object_facts class_part pair_part name_part mark_part
  facts_between =
      between_append (class_part ++ pair_part ++ name_part) mark_part
      (between_append (class_part ++ pair_part) name_part (between_append class_part pair_part class_part_lem pair_part_lem) name_part_lem) mark_part_lem

  -- Entries.

  class_sound : (f : ℕ) → Mem f class_part → FactOf (signature t) (candidate t) f
  unfolding class_part class_facts
  class_sound f m =
      let (A, h, r) = gather_is (λ A. gather n (class_facts S G T A)) S.signature.classes f m in
      let (d, k, c) = gather_is (class_facts S G T A) n f r in
      cond_elim {A = List ℕ} (λ l. Mem f l → FactOf (signature t) (candidate t) f) (has (classes_of S G T d) A)
      (λ x q. ⊎_elim (λ e. subst (FactOf (signature t) (candidate t)) e (of_class A d h k x)) (λ z. absurd z) q) (λ _ q. absurd q) c

  pair_sound : (f : ℕ) → Mem f pair_part → FactOf (signature t) (candidate t) f
  unfolding pair_part pair_facts
  pair_sound f m =
      let (P, h, r) = gather_is (λ P. gather n (pair_facts S G T P)) S.signature.attributes f m in
      let (d, k, c) = gather_is (pair_facts S G T P) n f r in
      let (e, i, q) = mem_unmapped (fact (attribute_kinds + P) d) f (targets S G T P d) c in
      let x = (candidate_targets t ok.formed P d e).1 i in
      subst (FactOf (signature t) (candidate t)) q (of_pair P d e h k (target_inside t ok.formed P d e k x) x)

  name_sound : (f : ℕ) → Mem f name_part → FactOf (signature t) (candidate t) f
  unfolding name_part name_facts
  name_sound f m =
      let (a, h, r) = gather_is (name_facts S G T) S.signature.constants f m in
      ⊎_elim (λ e. subst (FactOf (signature t) (candidate t)) (ap (name_fact a) (name_of a h) ∙ e) (of_name a h)) (λ z. absurd z) r

  mark_sound : (f : ℕ) → Mem f mark_part → FactOf (signature t) (candidate t) f
  unfolding mark_part mark_facts ground ground_of
  mark_sound f m =
      let (k, h, r) = gather_is (mark_facts S G T) max_marks f m in
      cond_elim {A = List ℕ} (λ l. Mem f l → FactOf (signature t) (candidate t) f) (among G.used k)
      (λ x q. ⊎_elim (λ e. subst (FactOf (signature t) (candidate t)) e (of_mark k x)) (λ z. absurd z) q) (λ _ q. absurd q) r

  facts_whole : (f : ℕ) → FactOf (signature t) (candidate t) f → Mem f (facts S G T)
  unfolding facts declared_facts object_facts class_part pair_part name_part mark_part class_facts pair_facts name_facts mark_facts ground ground_of
  facts_whole f (of_class A d h k x) =
      mem_left f (class_part ++ pair_part ++ name_part) mark_part
      (mem_left f (class_part ++ pair_part) name_part
      (mem_left f class_part pair_part
      (gather_of (λ A. gather n (class_facts S G T A)) S.signature.classes A f h
      (gather_of (class_facts S G T A) n d f k
      (subst (λ (b : Bool). Mem (fact A d 0) (cond b (fact A d 0 ∷ []) [])) (sym x) (inl refl))))))
  facts_whole f (of_pair P d e h k j x) =
      mem_left f (class_part ++ pair_part ++ name_part) mark_part
      (mem_left f (class_part ++ pair_part) name_part
      (mem_right f class_part pair_part
      (gather_of (λ P. gather n (pair_facts S G T P)) S.signature.attributes P f h
      (gather_of (pair_facts S G T P) n d f k
      (mem_mapped (fact (attribute_kinds + P) d) e (targets S G T P d) ((candidate_targets t ok.formed P d e).0 x))))))
  facts_whole f (of_name a h) =
      mem_left f (class_part ++ pair_part ++ name_part) mark_part
      (mem_right f (class_part ++ pair_part) name_part
      (gather_of (name_facts S G T) S.signature.constants a f h (inl (ap (name_fact a) (sym (name_of a h))))))
  facts_whole f (of_mark k h) =
      mem_right f (class_part ++ pair_part ++ name_part) mark_part
      (gather_of (mark_facts S G T) max_marks k f (ltb-true k max_marks (and_left _ _ h))
      (subst (λ (b : Bool). Mem (mark_fact k (G.marks k)) (cond b (mark_fact k (G.marks k) ∷ []) [])) (sym h) (inl refl)))

  pub facts_list : Lists (signature t) (candidate t) (facts S G T)
  unfolding facts declared_facts object_facts class_part pair_part name_part mark_part
  facts_list =
      record {
        ascends = facts_between.ascends;
        sound = λ f m.
            ⊎_elim
            (λ j. ⊎_elim (λ k. ⊎_elim (class_sound f) (pair_sound f) (mem_split f class_part pair_part k)) (name_sound f)
            (mem_split f (class_part ++ pair_part) name_part j)) (mark_sound f)
            (mem_split f (class_part ++ pair_part ++ name_part) mark_part m);
        whole = facts_whole;
      }

  -- Length.

  pub facts_few : length (facts S G T) ≤ max_facts
  unfolding facts declared_facts name_part mark_part name_facts mark_facts
  facts_few =
      omega (
        arith,
        length-append (object_facts S G T ++ name_part) mark_part,
        length-append (object_facts S G T) name_part,
        object_facts_few S G T,
        ground_edges t,
        mul-le-mul ok.classes objects_few,
        mul-le-mul ok.attributes objects_few,
        ok.query,
        gather_bound (name_facts S G T) S.signature.constants 1 (λ a. omega arith),
        gather_bound (mark_facts S G T) max_marks 1
            (λ k. cond_elim {A = List ℕ} (λ l. length l ≤ 1) (among G.used k) (λ _. omega arith) (λ _. omega arith)),
        ok.constants,
      )

  pub written_length : length (written t) ≤ max_state_words
  unfolding written
  written_length = omega (arith, state_length n (facts S G T), state_fits (length (facts S G T)) facts_few)

  -- The record.

  limits : Limited (signature t) (candidate t) (facts S G T)
  limits =
      record {
        classes = ok.classes;
        attributes = ok.attributes;
        constants = ok.constants;
        objects = omega (arith, objects_few);
        facts = facts_few;
      }

  pub written_size : (state_of (written t)).size ≡ (candidate t).size
  unfolding state_of written
  written_size = state_objects n (facts S G T)

  names_kept : clash t ≡ false → Names (signature t) (candidate t)
  names_kept c = names_allowed S.signature.marks t.marks S.signature (candidate t) (candidate_legal t ok.formed c).names

  pub written_accepted : clash t ≡ false → AcceptedState (signature t) (written t)
  unfolding written
  written_accepted c =
      list_accepted (signature t) (candidate t) (facts S G T) limits (names_kept c) (λ k h. mark_inside k) facts_list

  pub written_alike : clash t ≡ false → Alike (signature t) (candidate t) (state_of (written t))
  unfolding written
  written_alike c =
      list_alike (signature t) (candidate t) (facts S G T) limits (names_kept c) (λ k h. mark_inside k) facts_list
