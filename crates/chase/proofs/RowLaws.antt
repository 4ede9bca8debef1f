-- Facts of classes and attributes in rows over kinds and objects: how many there are, and between which numbers they lie.
use Prim.Native.Nat.{ℕ, suc, ◌+◌, ◌*◌, ◌≤◌, ◌<◌}
use native.Mathlib.Omega.{arith}
use mathlib.Core.List.{List, [], ◌∷◌, map}
use lib.ListN.{length, length-append, length-map}
use Rattle.records.specs.Layout.{object_part, word_part, attribute_kinds}
use Rattle.records.specs.Schema.{Schema}
use Rattle.records.specs.Encoding.{fact}
use Rattle.chase.specs.ClassSet.{has}
use Rattle.chase.specs.Ground.{Ground}
use Rattle.chase.specs.Forest.{Forest, classes_of}
use Rattle.chase.specs.Candidate.{objects}
use Rattle.chase.specs.Targets.{targets, pairs}
use Rattle.chase.specs.Written.{gather, class_facts, pair_facts, object_facts}
use Rattle.records.proofs.General.BoolLaws.{cond_elim}
use Rattle.records.proofs.General.AllLaws.{All, all_map, all_mapped}
use Rattle.records.proofs.General.Ascending.{Ascends, Between, between_wider}
use Rattle.chase.proofs.PairLaws.{pairs_bound}
use Rattle.chase.proofs.GatherLaws.{gather_between, gather_bound, gather_rows}

-- A class has at most all objects, and there are at most as many pairs as objects and edges give.
pub object_facts_few : (S : Schema) (G : Ground) (T : Forest)
    → length (object_facts S G T) ≤ S.signature.classes * objects S G T + (S.signature.attributes * objects S G T + length G.edges)
unfolding object_facts class_facts pair_facts pairs
object_facts_few S G T =
    let n = objects S G T in
    let members : ℕ → List ℕ = λ A. gather n (class_facts S G T A) in
    let values : ℕ → List ℕ = λ P. gather n (pair_facts S G T P) in
    omega (
      arith,
      length-append (gather S.signature.classes members) (gather S.signature.attributes values),
      gather_bound members S.signature.classes n
          (λ A.
          omega (
            arith,
            gather_bound (class_facts S G T A) n 1
                (λ d. cond_elim {A = List ℕ} (λ l. length l ≤ 1) (has (classes_of S G T d) A) (λ _. omega arith) (λ _. omega arith)),
          )),
      gather_rows S.signature.attributes n (pair_facts S G T) (λ P d. length (targets S G T P d))
          (λ P d. omega (arith, length-map (targets S G T P d) (fact (attribute_kinds + P) d))),
      pairs_bound S G T,
    )

-- Facts of one kind and object lie between its first fact and the next object's, and so in a row over objects and kinds.

pub fact_between : (k d : ℕ) (l : List ℕ) → Ascends l → All (λ e. e < word_part) l → Between (fact k d 0) (fact k (suc d) 0) (map (fact k d) l)
fact_between k d l a b =
    record {
      order = omega arith;
      ascends = up l a;
      lower = all_mapped (λ f. fact k d 0 ≤ f) (fact k d) l (all_map (λ e h. omega arith) l b);
      upper = all_mapped (λ f. f < fact k (suc d) 0) (fact k d) l (all_map (λ e h. omega arith) l b);
    }
  where
    up : (l : List ℕ) → Ascends l → Ascends (map (fact k d) l)
    up [] a = tt
    up (e ∷ l) a = (all_mapped (λ f. fact k d e < f) (fact k d) l (all_map (λ y h. omega arith) l a.0), up l a.1)

pub rows_between : (k m n : ℕ) (f : ℕ → ℕ → List ℕ) → n ≤ object_part
    → ((i d : ℕ) → i < m → d < n → Between (fact (k + i) d 0) (fact (k + i) (suc d) 0) (f i d))
    → Between (fact k 0 0) (fact (k + m) 0 0) (gather m (λ i. gather n (f i)))
rows_between k m n f small h =
    between_wider (gather m (λ i. gather n (f i))) (omega arith) (omega arith)
    (gather_between (λ i. gather n (f i)) m (λ i. fact (k + i) 0 0)
    (λ i j. between_wider (gather n (f i)) (omega arith) (omega arith) (gather_between (f i) n (λ d. fact (k + i) d 0) (λ d. h i d j))))
