-- Items: what the code appends at a place is what the item that ends there asks. An item's facts are those of its operands,
-- the last first, with the fact of its own token between them.
use Prim.Native.Nat.{ℕ, suc, ◌+◌, ◌-◌, ◌<◌}
use native.Mathlib.Omega.{arith}
use mathlib.Core.Bool.{Bool}
use mathlib.Core.List.{List}
use mathlib.Core.Path.{◌≡◌, sym, subst}
use Rattle.records.specs.declared.token.Token.{Token}
use Rattle.records.specs.declared.token.Token.TheVariants.{Class, Everything, Constant, Both, Empty, Reached, Common, Mark}
use Rattle.records.specs.Concept.{direction_of}
use Rattle.records.specs.ConceptRecord.{token_at}
use Rattle.records.specs.Helpers.Reading.{start_of, HasConcept, HasPath, step_token, step_number}
use Rattle.records.specs.Helpers.InRange.{TokenInRange}
use Rattle.records.proofs.PileLaws.{start_le}
use Rattle.records.proofs.ReadingLaws.{Reads, ReadsStep, ReadsPath, concept_next, path_next}
use Rattle.records.proofs.AcceptedLaws.{step_in_range}
use Rattle.chase.specs.Facts.{Facts, at_node, of_mark, member, equal, related, ◌⊕◌}
use Rattle.chase.specs.QueryTokens.{end_at}
use Rattle.chase.proofs.QueryTokenLaws.{facts_class, facts_everything, facts_constant, facts_mark, facts_both, facts_reached, facts_common, facts_empty, facts_step}
use Rattle.chase.specs.Bounds.{max_nodes}
use Rattle.primary.specs.Words.{part}
use Rattle.asked.specs.declared.words.Kind.{Kind}
use Rattle.asked.specs.declared.words.Words.{Words}
use Rattle.asked.specs.Listed.{Grown}
use Rattle.asked.specs.Places.{Place, ConceptGrown, PathGrown}
use Rattle.asked.proofs.GrownLaws.{grown_none, grown_join, grown_suc, grown_late, grown_one, grown_as}
use Rattle.asked.proofs.PlaceLaws.{place_earlier, place_grown, place_end}

-- The operands of the token at `at`, from the last one. The code names the places that it has found.

module _ {k : Kind} {w : List ℕ} {first at n r : ℕ} {x y : Words} (z : Place w first (suc at) n x) (middle : r ≡ start_of w at 1) where
  -- after the last operand the one before it can be read, with room for a fact between them
  pub place_between : {F : Facts} → Grown k F (start_of w at 1) at x y → Place w first (suc (start_of w at 1)) n y
  place_between g = place_grown z (grown_suc g) (omega (arith, start_le w at 1))

  pub place_below : {F : Facts} → Grown k F (start_of w at 1) at x y → Place w first r n y
  place_below g = place_earlier (place_between g) (omega arith)

  -- .. and after the fact between them
  pub place_after : {F E : Facts} {u : Words} → Grown k F (start_of w at 1) at x y → Grown k E 0 1 y u → Place w first r n u
  place_after g h = rw middle (place_grown (place_between g) (grown_one (start_of w at 1) h) (omega arith))

  pub both_grown : {v : Words} → Reads w at Both → ConceptGrown first w at n k x y → ConceptGrown first w r n k y v
      → ConceptGrown first w (suc at) n k x v
  both_grown t g h = grown_as (facts_both first w at n t) t.1 (grown_late (grown_join g (rw middle at h)))

  -- three parts
  grown_three : {F E G : Facts} {b : ℕ} {u v : Words} → Grown k F (start_of w at 1) at x y → Grown k E 0 1 y u → Grown k G b (start_of w at 1) u v
      → Grown k (F ⊕ E ⊕ G) b (suc at) x v
  grown_three g f h = grown_join (grown_join (grown_suc g) (grown_one (start_of w at 1) f)) h

  pub common_grown : {p q : ℕ} {u v : Words} → Reads w at Common → p ≡ end_at w r n → q ≡ end_at w at n → PathGrown first w at n k x y
      → Grown k (equal p (at_node q)) 0 1 y u
      → PathGrown first w r n k u v
      → ConceptGrown first w (suc at) n k x v
  common_grown t p q g f h = grown_as (facts_common first w at n t) t.1 (grown_three g (rw (p, q, middle) at f) (rw middle at h))

  pub step_grown : (P : ℕ) (b : Bool) {l o : ℕ} {u v : Words} → ReadsStep w at (direction_of b) P → l ≡ step_number w at → o ≡ end_at w r n
      → ConceptGrown first w at l k x y
      → Grown k (related (direction_of b) P o l) 0 1 y u
      → PathGrown first w r n k u v
      → PathGrown first w (suc at) n k x v
  step_grown P b t l o g f h =
      grown_as (facts_step first w at n (direction_of b) P t).0 t.1
      (grown_three (rw l at g) (rw (l, o, middle) at f) (rw middle at h))

-- the parts of those facts
module _ {w : List ℕ} {first at n : ℕ} {x : Words} (z : Place w first (suc at) n x) where
  pub left_small : {r p : ℕ} → r ≡ start_of w at 1 → HasPath w (start_of w at 1) → p ≡ end_at w r n → p < max_nodes
  left_small {r} middle h q = omega (arith, q, place_end z {m = r} (omega (arith, middle, start_le w at 1)) (rw middle h))

  pub right_small : {q : ℕ} → HasPath w at → q ≡ end_at w at n → q < max_nodes
  right_small h q = omega (arith, q, place_end z {m = at} (omega arith) h)

  pub token_named : {t : Token} → token_at w at ≡ t → TokenInRange t
  token_named q = subst TokenInRange q (z.limits.named at (omega (arith, z.within)))

  pub step_named : (b : Bool) {P : ℕ} → token_at w at ≡ step_token (direction_of b) P → P < part
  step_named b q = omega (arith, step_in_range (direction_of b) (token_named q))

-- Tokens with at most one operand.

module _ {k : Kind} {w : List ℕ} {first at n : ℕ} {x : Words} (z : Place w first (suc at) n x) where
  pub class_grown : {A : ℕ} {r : Words} → Reads w at (Class A) → Grown k (member A n) 0 1 x r → ConceptGrown first w (suc at) n k x r
  class_grown {A} t g = grown_as (facts_class first w at n A t) t.1 (grown_one at g)

  pub everything_grown : Reads w at Everything → ConceptGrown first w (suc at) n k x x
  everything_grown t = grown_as (facts_everything first w at n t) t.1 (grown_none k x at (suc at) z.size (omega arith))

  pub constant_grown : {a : ℕ} {r : Words} → Reads w at (Constant a) → Grown k (equal n (at_node (first + a))) 0 1 x r
      → ConceptGrown first w (suc at) n k x r
  constant_grown {a} t g = grown_as (facts_constant first w at n a t) t.1 (grown_one at g)

  pub mark_grown : {m : ℕ} {r : Words} → Reads w at (Mark m) → Grown k (equal n (of_mark m)) 0 1 x r → ConceptGrown first w (suc at) n k x r
  mark_grown {m} t g = grown_as (facts_mark first w at n m t) t.1 (grown_one at g)

  pub reached_grown : {r : Words} → Reads w at Reached → PathGrown first w at n k x r → ConceptGrown first w (suc at) n k x r
  reached_grown t g = grown_as (facts_reached first w at n t) t.1 (grown_late g)

  pub empty_grown : ReadsPath w at Empty → PathGrown first w (suc at) n k x x
  empty_grown t = grown_as (facts_empty first w at n t).0 t.1 (grown_none k x at (suc at) z.size (omega arith))

-- The place after the last token.

module _ {w : List ℕ} {first end n : ℕ} {x : Words} (z : Place w first end n x) where
  module _ (h : HasConcept w end) where
    pub concept_place : Place w first (suc (end - 1)) n x
    concept_place = place_earlier z (omega (arith, concept_next w end h))

    pub concept_put : {k : Kind} {r : Words} → ConceptGrown first w (suc (end - 1)) n k x r → ConceptGrown first w end n k x r
    concept_put {k} {r} g = subst (λ (e : ℕ). ConceptGrown first w e n k x r) (sym (concept_next w end h)) g

  module _ (h : HasPath w end) where
    pub path_place : Place w first (suc (end - 1)) n x
    path_place = place_earlier z (omega (arith, path_next w end h))

    pub path_put : {k : Kind} {r : Words} → PathGrown first w (suc (end - 1)) n k x r → PathGrown first w end n k x r
    path_put {k} {r} g = subst (λ (e : ℕ). PathGrown first w e n k x r) (sym (path_next w end h)) g
