-- An accepted query keeps the limits, and the facts of the concept that ends at its last token are what the query asks.
use Prim.Native.Nat.{ℕ, ◌+◌, ◌≤◌}
use native.Mathlib.Numerals.{add-one}
use native.Mathlib.Omega.{arith}
use mathlib.Core.Bool.{false}
use mathlib.Core.List.{List, []}
use mathlib.Core.Path.{◌≡◌, sym, ap, subst, ◌∙◌}
use lib.Dec.{ltb}
use lib.ListN.{length, get_or, take}
use borrow.Author.Tests.{eqb-true, not-false}
use Rattle.records.specs.Finite.{count}
use Rattle.records.specs.Layout.{concept_layout, size_at, entries, query_steps, max_tokens}
use Rattle.records.specs.Outcome.{query_signature}
use Rattle.records.specs.ConceptRecord.{concept_of}
use Rattle.records.specs.ConceptRefusal.{steps, refusal_5, refusal_6, AcceptedConcept}
use Rattle.records.specs.SchemaRefusal.{AcceptedSchema}
use Rattle.records.proofs.General.BoolLaws.{or_false_left}
use Rattle.records.proofs.AcceptedLaws.{passes_1, passes_3, passes_5, passes_6, tokens_few, signature_few, token_in_range, accepted_concept, accepted_steps, accepted_limit}
use Rattle.records.specs.Helpers.Steps.{concept_steps}
use Rattle.chase.specs.Facts.{Facts}
use Rattle.chase.specs.Task.{asked, task_of}
use Rattle.records.specs.Helpers.Reading.{start_of, HasConcept}
use Rattle.chase.specs.QueryTokens.{facts_at}
use Rattle.primary.specs.Asked.{query_task}
use Rattle.asked.specs.declared.words.Kind.{Kind}
use Rattle.asked.specs.declared.words.Kind.TheVariants.{Members, Equations, Edges}
use Rattle.asked.specs.declared.words.Words.{Words}
use Rattle.asked.specs.Listed.{listed, Adds, Grown}
use Rattle.asked.specs.Places.{Limits, Place}
use Rattle.asked.specs.Answer.{Says, Asked}

-- what is added to no words is what they say
adds_says : (k : Kind) (F : Facts) (m : List ℕ) → Adds k F [] m → Says k m F
adds_says Members F m h = h
adds_says Equations F m h = h
adds_says Edges F m h = h

module _ (s q : List ℕ) (legal : AcceptedSchema s) (sound : AcceptedConcept query_steps (query_signature s) q) where
  pile : refusal_5 q ≡ false
  pile = passes_5 query_steps (query_signature s) q sound

  limits : Limits q
  limits =
      record {
        few = tokens_few q (passes_3 query_steps (query_signature s) q sound);
        steps = omega (
          arith,
          accepted_steps q pile,
          accepted_limit q pile query_steps (passes_6 query_steps (query_signature s) q sound),
        );
        named = token_in_range (query_signature s) (signature_few s (passes_1 s legal)) query_steps q sound;
      }

  -- the second size is the number of steps
  pub start_is : {a : ℕ} → a ≡ get_or q 1 0 → a ≡ concept_steps (concept_of q)
  unfolding refusal_6 size_at
  start_is h =
      h ∙ sym (eqb-true (steps q) (get_or q 1 0)
      (not-false _ (or_false_left _ (ltb query_steps (steps q)) (passes_6 query_steps (query_signature s) q sound))))
      ∙ sym (accepted_steps q pile)

  module _ {n a : ℕ} (last : n ≡ entries concept_layout q) (start : a ≡ get_or q 1 0) where
    pub place_last : (x : Words) → x.count ≡ 0 → length x.words ≡ max_tokens → Place q (a + 1) n a x
    place_last x none size =
        let few : a ≤ query_steps = omega (
          arith,
          start_is start,
          accepted_limit q pile query_steps (passes_6 query_steps (query_signature s) q sound),
        ) in
        record {
          limits = limits;
          within = omega arith;
          node = few;
          constants = omega arith;
          room = omega (arith, none, last, limits.few);
          size = size;
        }

    pub concept_last : HasConcept q n
    concept_last = rw last (accepted_concept q pile).0

    -- the last concept's facts are the query's
    facts_last : facts_at (a + 1) q n a ≡ asked (query_task s q)
    unfolding asked task_of concept_of count
    facts_last =
        rw (last, (accepted_concept q pile).1, add-one, start_is start)

    pub asked_last : {k : Kind} {x r : Words} → x.count ≡ 0 → Grown k (facts_at (a + 1) q n a) (start_of q n 1) n x r → Asked s q k r
    asked_last {k} {x} {r} none g =
        record {
          count = omega (arith, g.fits, none, last, limits.few);
          size = g.size;
          says = adds_says k (asked (query_task s q)) (listed r) (rw (← facts_last) (from_none g.adds));
        }
      where
        from_none : Adds k (facts_at (a + 1) q n a) (listed x) (listed r) → Adds k (facts_at (a + 1) q n a) [] (listed r)
        from_none = subst (λ (l : List ℕ). Adds k (facts_at (a + 1) q n a) l (listed r)) (ap (λ (i : ℕ). take i x.words) none)
