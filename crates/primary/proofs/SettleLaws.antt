-- Why the repeated pass ends at the primary part: each round starts at a part x in order from which the model settles at the
-- same end, and leaves the pass of x. Where the weight stands still, that is the end.
use Prim.Native.Nat.{ℕ, ◌-◌, ◌≤◌, ◌<◌}
use native.Mathlib.Omega.{arith}
use mathlib.Core.List.{List, [], map}
use mathlib.Core.Logic.{◌≢◌}
use mathlib.Core.Path.{◌≡◌, refl, sym, ap, subst, ◌∙◌}
use lib.ListN.{length, get_or}
use Rattle.records.specs.Layout.{query_steps}
use Rattle.records.specs.SchemaRecord.{schema_of}
use Rattle.records.specs.Outcome.{query_signature}
use Rattle.records.specs.SchemaRefusal.{AcceptedSchema}
use Rattle.records.specs.ConceptRefusal.{AcceptedConcept}
use Rattle.records.proofs.AcceptedLaws.{passes_1, passes_5, passes_6, accepted_limit}
use Rattle.classes.specs.Domains.{DomainTable}
use Rattle.chase.specs.Task.{Task, WellFormed, nodes, asked, mark_node, ties, task_of}
use Rattle.chase.specs.Primary.{Prime, rep_of, pass, weight, begin, bound, settled, primary}
use Rattle.records.proofs.General.AllLaws.{All, all_unmapped, all_get_d}
use Rattle.chase.proofs.AcceptanceLaws.{accepted-signature, accepted_formed}
use Rattle.records.proofs.General.LoopLaws.{grows_le, still}
use Rattle.chase.proofs.PrimeLaws.{Ok, weight_bound}
use Rattle.chase.proofs.AskedLaws.{within, ties_inside}
use Rattle.chase.proofs.PrimaryLaws.{pass_grows, begin_ok, settled_next, settled_stop}
use Rattle.primary.specs.Formed.{prime, Formed, Becomes}
use Rattle.chase.specs.Bounds.{max_nodes}
use Rattle.primary.specs.Words.{member_of, tie_of, edge_of, FactsIn}
use Rattle.primary.specs.Pass.{pass_on}
use Rattle.primary.specs.Asked.{query_task, Asks}

pub words_in : {A : Type 0} (X : A → Type 0) (f : ℕ → A) (ws : List ℕ) (l : List A) → map f ws ≡ l → All X l → (i : ℕ)
    → i < length ws → X (f (get_or ws i 0))
words_in X f ws l e h = all_get_d (λ w. X (f w)) ws (all_unmapped X f ws (subst (All X) (sym e) h))

-- y is the pass of a part of weight b, and its own weight is a
abbrev pub Round : Task → Prime → ℕ → ℕ → Type 0
Round t y b a = (x : Prime) × Ok t x × (settled t x ≡ primary t) × (b ≡ weight x) × (y ≡ pass t x) × (a ≡ weight y)

module _ (t : Task) (formed : WellFormed t) where
  pub begins_ok : (x : Prime) → x ≡ begin t → Ok t x
  begins_ok x e = subst (Ok t) (sym e) (begin_ok t formed)

  pub round_first : (y : Prime) (b a : ℕ) → b ≡ weight (begin t) → y ≡ pass t (begin t) → a ≡ weight y → Round t y b a
  unfolding primary
  round_first y b a h k l = (begin t, begin_ok t formed, refl, h, k, l)

  pub round_ok : (y : Prime) (b a : ℕ) → Round t y b a → Ok t y
  round_ok y b a r = subst (Ok t) (sym r.4) (pass_grows t formed r.0 r.1).0

  pub round_next : (y z : Prime) (b a d : ℕ) → Round t y b a → z ≡ pass t y → d ≡ weight z → Round t z a d
  round_next y z b a d r h k =
      (y, round_ok y b a r, ap (settled t) r.4 ∙ settled_next t formed r.0 r.1 ∙ r.2, r.5, h, k)

  pub round_less : (y : Prime) (b a : ℕ) → Round t y b a → a ≢ b → bound t - a < bound t - b
  round_less y b a r h =
      let le : weight r.0 ≤ weight (pass t r.0) = grows_le weight (Ok t) (pass t) (pass_grows t formed) r.0 r.1 in
      let top : weight y ≤ bound t = weight_bound t y (round_ok y b a r) in
      let same : weight y ≡ weight (pass t r.0) = ap weight r.4 in
      let apart : a ≡ b → ⊥ = h in
      below a b (weight y) (weight r.0) (bound t) r.5 r.3 (omega arith) top apart
    where
      below : (a b v u m : ℕ) → a ≡ v → b ≡ u → u ≤ v → v ≤ m → (a ≡ b → ⊥) → m - a < m - b
      below a b v u m p q h k n = omega arith

  pub round_last : (y : Prime) (b a : ℕ) → Round t y b a → a ≡ b → y ≡ primary t
  round_last y b a r e =
      let same : weight (pass t r.0) ≡ weight r.0 = sym (ap weight r.4) ∙ sym r.5 ∙ e ∙ r.3 in
      r.4 ∙ still weight (Ok t) (pass t) (pass_grows t formed) r.0 r.1 same
      ∙ sym (settled_stop t formed r.0 r.1 same) ∙ r.2

pub ok_formed : (t : Task) (r s : List ℕ) → Ok t (prime r s) → Formed r s
unfolding rep_of
ok_formed t r s ok =
    record {
      paired = ok.sets ∙ sym ok.reps;
      inside = λ i h. subst (λ (n : ℕ). get_or r i 0 < n) (sym ok.reps) (ok.inside i (subst (λ (n : ℕ). i < n) ok.reps h));
    }

pub nodes_few : (s q : List ℕ) → AcceptedSchema s → AcceptedConcept query_steps (query_signature s) q → nodes (query_task s q) ≤ max_nodes
unfolding task_of schema_of
nodes_few s q legal sound =
    omega (
      arith,
      accepted-signature s (passes_1 s legal),
      accepted_limit q (passes_5 query_steps (query_signature s) q sound) query_steps (passes_6 query_steps (query_signature s) q sound),
    )

module _ (s q ms qs es : List ℕ) (asks : Asks s q ms qs es) where
  pub asks_formed : WellFormed (query_task s q)
  asks_formed =
      accepted_formed s q [] asks.legal asks.sound

  pub asks_facts : FactsIn (nodes (query_task s q)) ms qs es
  unfolding task_of schema_of
  asks_facts =
      let n = nodes (query_task s q) in
      let w = within (query_task s q) asks_formed in
      record {
        members = λ i h.
            let k = words_in (λ m. (m.class < (schema_of s).signature.classes) × (m.node < n)) member_of ms _ asks.classes w.members i h in
            (omega (arith, k.0, accepted-signature s (passes_1 s asks.legal)), k.1);
        ties = words_in (λ m. (m.left < n) × (m.right < n)) tie_of qs _ asks.tied (ties_inside (query_task s q) asks_formed);
        edges = λ i h.
            let k = words_in (λ m. (m.origin < n) × (m.target < n)) edge_of es _ asks.related w.edges i h in
            record { origin = k.0; target = k.1 };
      }

  pub pass_is : (n : ℕ) (x : Prime) → n ≡ nodes (query_task s q)
      → pass_on (schema_of s) (map member_of ms) (map tie_of qs) (map edge_of es) n x ≡ pass (query_task s q) x
  unfolding pass_on task_of
  pass_is n x h = rw (asks.classes, asks.tied, asks.related, h)

  -- What the functions need of a part in order, and what a pass leaves.
  module _ (r l : List ℕ) (ok : Ok (query_task s q) (prime r l)) where
    pub room : (length r ≤ max_nodes) × (length l ≤ max_nodes)
    room = let few = nodes_few s q asks.legal asks.sound in (omega (arith, few, ok.reps), omega (arith, few, ok.sets))

    pub ready : (d : List ℕ) → DomainTable s d → AcceptedSchema s × DomainTable s d × Formed r l × FactsIn (length r) ms qs es
    ready d domains =
        (asks.legal, domains, ok_formed (query_task s q) r l ok, subst (λ (n : ℕ). FactsIn n ms qs es) (sym ok.reps) asks_facts)

    abbrev pub Passed : List ℕ → List ℕ → Type 0
    Passed r' l' =
        Becomes (length r) r' l' (pass_on (schema_of s) (map member_of ms) (map tie_of qs) (map edge_of es) (length r) (prime r l))

    pub passed_is : (r' l' : List ℕ) → Passed r' l' → prime r' l' ≡ pass (query_task s q) (prime r l)
    passed_is r' l' b = b.value ∙ pass_is (length r) (prime r l) ok.reps

    pub passed_ok : (r' l' : List ℕ) → Passed r' l' → Ok (query_task s q) (prime r' l')
    passed_ok r' l' b =
        subst (Ok (query_task s q)) (sym (passed_is r' l' b)) (pass_grows (query_task s q) asks_formed (prime r l) ok).0

-- the view has no part in it
pub primary_view : (s q v : List ℕ) → primary (task_of s q v) ≡ primary (query_task s q)
unfolding primary settled begin asked mark_node ties task_of
primary_view s q v = refl
