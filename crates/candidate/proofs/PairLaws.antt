-- The pairs of an attribute at an object: the query's, found by a search over its edges, and one value more.
use Prim.Native.Nat.{ℕ, zero, suc, ◌+◌, ◌≤◌, ◌<◌}
use native.Mathlib.Numerals.{add-one}
use native.Mathlib.Omega.{arith}
use mathlib.Core.Bool.{Bool, false, cond, ◌&&◌, ◌||◌}
use mathlib.Core.List.{List, [], ◌∷◌, ◌++◌, map, map-append, append-nil}
use mathlib.Core.Path.{◌≡◌, refl, sym, ap, ap₂, subst, ◌∙◌}
use lib.Dec.{eqb, ltb}
use lib.ListN.{length, set}
use borrow.Author.Tests.{lt-ltb, le-ltb}
use Rattle.records.specs.Layout.{attribute_kinds}
use Rattle.records.specs.Schema.{Schema}
use Rattle.records.specs.Encoding.{fact}
use Rattle.records.specs.Helpers.Loops.{any_of, upto}
use Rattle.chase.specs.Facts.{Edge}
use Rattle.chase.specs.Ground.{Ground, listing}
use Rattle.chase.specs.Forest.{Forest, size, kid, push, asks, lacks}
use Rattle.chase.specs.Candidate.{links}
use Rattle.chase.specs.Targets.{targets}
use Rattle.chase.specs.Written.{gather, pair_facts}
use Rattle.records.proofs.General.LoopLaws.{any_map}
use Rattle.std.specs.List.{list_any}
use Rattle.forest.proofs.ReadLaws.{any_listed}
use Rattle.records.proofs.General.BoolLaws.{cond_elim, cond_elim₂, or_false}
use Rattle.chase.proofs.ForestLaws.{kid_lacks, kid_bound}
use Rattle.primary.specs.Words.{edge_of}
use Rattle.ground.specs.Objects.{ground_in}
use Rattle.candidate.specs.Writing.{Room, Wrote, fact_if}
use Rattle.candidate.specs.Facts.{value_facts, link_fact, link_facts, value_at}
use Rattle.candidate.proofs.WriteLaws.{wrote_none, wrote_one, wrote_then, room_first, room_next, room_as, wrote_as}

-- the class sets have no part in the query's pairs
pub link_any : (g : ℕ) (words edges : List ℕ) (P d : ℕ) → link_facts (ground_in g [] edges) P d ≡ link_facts (ground_in g words edges) P d
unfolding links
link_any g words edges P d = refl

-- one edge is the pair (d, e) of P
module _ (l : List ℕ) (P d e : ℕ) where
  abbrev pub is_link : ℕ → Bool
  is_link w = eqb (edge_of w).attribute P && eqb (edge_of w).origin d && eqb (edge_of w).target e

  pub links_words : (g : ℕ) (objects : List ℕ) → list_any is_link l ≡ links (ground_in g objects l) P d e
  unfolding links
  links_words g objects = any_listed is_link l ∙ sym (any_map (λ f. eqb f.attribute P && eqb f.origin d && eqb f.target e) edge_of l)

-- where the query asks nothing, it has no pair
asked_by : (P d e : ℕ) (l : List Edge) → any_of (λ f. eqb f.attribute P && eqb f.origin d) l ≡ false
    → any_of (λ f. eqb f.attribute P && eqb f.origin d && eqb f.target e) l ≡ false
unfolding any_of
asked_by P d e [] h = refl
asked_by P d e (f ∷ l) h =
    let k = or_false (eqb f.attribute P && eqb f.origin d) (any_of (λ f. eqb f.attribute P && eqb f.origin d) l) h in
    ap₂ ◌||◌ (ap (λ (b : Bool). b && eqb f.target e) k.0) (asked_by P d e l k.1)

gather_empty : (f : ℕ → List ℕ) → ((i : ℕ) → f i ≡ []) → (n : ℕ) → gather n f ≡ []
unfolding gather
gather_empty f h zero = refl
gather_empty f h (suc n) = ap₂ ◌++◌ (gather_empty f h n) (h n)

unasked_facts : (G : Ground) (P d : ℕ) → asks G P d ≡ false → link_facts G P d ≡ []
unfolding asks links
unasked_facts G P d h =
    gather_empty (link_fact G P d)
    (λ e. ap (λ (b : Bool). fact_if b (fact (attribute_kinds + P) d e)) (asked_by P d e G.edges h)) G.objects

pub unasked_wrote : (G : Ground) (P d k : ℕ) (out : List ℕ) → asks G P d ≡ false → Wrote k (link_facts G P d) out k out
unasked_wrote G P d k out h = wrote_as k k [] (link_facts G P d) out out (sym (unasked_facts G P d h)) (wrote_none k out)

-- the pairs in their two parts
listing_gather : (h : ℕ → ℕ) (test : ℕ → Bool) (n : ℕ) → map h (listing test (λ e. e) n) ≡ gather n (λ e. fact_if (test e) (h e))
unfolding listing upto gather
listing_gather h test zero = refl
listing_gather h test (suc n) =
    cond_elim₂ {A = List ℕ} {B = List ℕ} (λ l m. map h l ≡ gather n (λ e. fact_if (test e) (h e)) ++ m) (test n)
    (λ _. map-append h (listing test (λ e. e) n) (n ∷ []) ∙ ap (λ (l : List ℕ). l ++ (h n ∷ [])) (listing_gather h test n))
    (λ _. listing_gather h test n ∙ sym (append-nil (gather n (λ e. fact_if (test e) (h e)))))

module _ (S : Schema) (G : Ground) (T : Forest) (P d : ℕ) where
  value_push : push (kid G T P d) (cond (lacks S G T P d) (size G T ∷ []) []) ≡ push (value_at S G T P d) []
  unfolding value_at
  value_push = go (kid G T P d) refl
    where
      go : (v : ℕ) → kid G T P d ≡ v
          → push v (cond (lacks S G T P d) (size G T ∷ []) []) ≡ push (cond (ltb 0 v) v (cond (lacks S G T P d) (suc (size G T)) zero)) []
      go zero q = cond_elim₂ {A = List ℕ} {B = ℕ} (λ l v. l ≡ push v []) (lacks S G T P d) (λ _. refl) (λ _. refl)
      go (suc e) q =
          ap (λ (b : Bool). e ∷ cond b (size G T ∷ []) []) (kid_lacks S G T P d e q)
          ∙ sym (ap (λ (b : Bool). push (cond b (suc e) (cond (lacks S G T P d) (suc (size G T)) zero)) []) (lt-ltb 0 (suc e) (omega arith)))

  pub pair_parts : pair_facts S G T P d ≡ link_facts G P d ++ value_facts P d (value_at S G T P d)
  unfolding pair_facts targets
  pair_parts =
      map-append (fact (attribute_kinds + P) d) (listing (links G P d) (λ e. e) G.objects) _
      ∙ ap₂ ◌++◌ (listing_gather (fact (attribute_kinds + P) d) (links G P d) G.objects)
      (ap (map (fact (attribute_kinds + P) d)) value_push)

  -- written one after the other
  pub pair_room : (k : ℕ) (out : List ℕ) → Room k (pair_facts S G T P d) out → Room k (link_facts G P d) out
  pair_room k out room =
      room_first k (link_facts G P d) (value_facts P d (value_at S G T P d)) out (room_as k _ (pair_facts S G T P d) out (sym pair_parts) room)

  module _ (k r v : ℕ) (out mid : List ℕ) (a : Wrote k (link_facts G P d) out r mid) (e : v ≡ value_at S G T P d) where
    parts : pair_facts S G T P d ≡ link_facts G P d ++ value_facts P d v
    parts = pair_parts ∙ ap (λ (x : ℕ). link_facts G P d ++ value_facts P d x) (sym e)

    pub pair_next : Room k (pair_facts S G T P d) out → Room r (value_facts P d v) mid
    pair_next room =
        room_next k r (link_facts G P d) (value_facts P d v) out mid (room_as k _ (pair_facts S G T P d) out (sym parts) room) a

    pub pair_both : (q : ℕ) (after : List ℕ) → Wrote r (value_facts P d v) mid q after → Wrote k (pair_facts S G T P d) out q after
    pair_both q after b =
        wrote_as k q _ (pair_facts S G T P d) out after (sym parts)
        (wrote_then k r q (link_facts G P d) (value_facts P d v) out mid after a b)

  -- which value it is: the made one, or where there is none and it is lacking the closing object
  pub value_made : (v : ℕ) → v ≡ kid G T P d → 0 < v → v ≡ value_at S G T P d
  unfolding value_at
  value_made v q h =
      q ∙ sym (ap (λ (b : Bool). cond b (kid G T P d) (cond (lacks S G T P d) (suc (size G T)) zero)) (lt-ltb 0 (kid G T P d) (omega arith)))

  pub value_else : (b : Bool) → kid G T P d ≡ 0 → b ≡ lacks S G T P d → cond b (suc (size G T)) zero ≡ value_at S G T P d
  unfolding value_at
  value_else b k e =
      ap (λ (t : Bool). cond t (suc (size G T)) zero) e
      ∙ sym (ap (λ (t : Bool). cond t (kid G T P d) (cond (lacks S G T P d) (suc (size G T)) zero)) (le-ltb 0 (kid G T P d) (omega arith)))

pub value_bound : (S : Schema) (G : Ground) (T : Forest) (P d : ℕ) → value_at S G T P d ≤ suc (size G T)
unfolding value_at
value_bound S G T P d =
    cond_elim (λ v. v ≤ suc (size G T)) (ltb 0 (kid G T P d)) (λ _. omega (arith, kid_bound G T P d))
    (λ _. cond_elim (λ v. v ≤ suc (size G T)) (lacks S G T P d) (λ _. omega arith) (λ _. omega arith))

pub value_small : (S : Schema) (G : Ground) (T : Forest) (P d : ℕ) {v n : ℕ} → v ≡ value_at S G T P d → size G T ≡ n → v ≤ n + 1
value_small S G T P d e q = omega (arith, e, q, value_bound S G T P d)

-- the pair to it
module _ (k P d : ℕ) (out : List ℕ) (e : ℕ) where
  one : value_facts P d (e + 1) ≡ fact (attribute_kinds + P) d e ∷ []
  one = rw add-one

  pub value_room : Room k (value_facts P d (e + 1)) out → k < length out
  unfolding Room
  value_room room = let q = rw one at room in omega (arith, q)

  pub value_on : (f : ℕ) → f ≡ fact (attribute_kinds + P) d e → Room k (value_facts P d (e + 1)) out
      → Wrote k (value_facts P d (e + 1)) out (k + 1) (set out k f)
  value_on f q room =
      let is : f ∷ [] ≡ value_facts P d (e + 1) = ap (λ (x : ℕ). x ∷ []) q ∙ sym one in
      subst (λ (l : List ℕ). Wrote k l out (k + 1) (set out k f)) is (wrote_one k f out (subst (λ (l : List ℕ). Room k l out) (sym is) room))
