-- What the code finds at a place is the item that ends there: for each token, what it makes of its operands (Reads) is what
-- the code makes of theirs, and its steps have their landings.
use Prim.Native.Nat.{ℕ, suc, ◌+◌, ◌-◌, ◌≤◌}
use mathlib.Core.Bool.{false, So}
use mathlib.Core.List.{List}
use mathlib.Core.Path.{◌≡◌, refl, sym, ap, subst, ◌∙◌}
use native.Mathlib.Omega.{arith}
use lib.ListN.{length}
use Rattle.records.specs.declared.token.Token.TheVariants.{Class, Everything, Constant, Both, Reached, Common, Mark}
use Rattle.records.specs.declared.schema.Signature.{Signature}
use Rattle.records.specs.State.{State}
use Rattle.records.specs.Concept.{direction_of, Concept, reached, common}
use Rattle.records.specs.Layout.{concept_layout, state_layout, entries, object_part, constant_kinds, mark_kinds, max_tokens, max_facts}
use Rattle.records.specs.ConceptRecord.{token_at, concept_of}
use Rattle.records.specs.StateRecord.{objects, state_of}
use Rattle.records.specs.ConceptRefusal.{is_step, step_at}
use Rattle.records.specs.Helpers.Reading.{start_of, path_at, HasConcept, HasPath}
use Rattle.records.proofs.AcceptedLaws.{tokens_few, accepted_concept, passes_7, facts_few}
use Rattle.records.proofs.General.FiniteLaws.{any_of_lem}
use Rattle.records.proofs.PileLaws.{start_le}
use Rattle.records.proofs.ReadingLaws.{Reads, step_reads, concept_next, path_next}
use Rattle.index.specs.Kinds.{KindsRise}
use Rattle.index.proofs.KindLaws.{kinds_rise}
use Rattle.evaluate.specs.declared.items.Found.{Found}
use Rattle.rows.specs.Selection.{Selection}
use Rattle.evaluate.specs.Relations.{is_common, common_at, Landable, Relations}
use Rattle.rows.specs.Rows.{SharedRow, KindSet, Put, Below}
use Rattle.paths.specs.Relation.{Met}
use Rattle.paths.specs.Landings.{Landed, Walk}
use Rattle.evaluate.specs.Places.{Place, ConceptAt, PathAt}
use Rattle.paths.proofs.FactLaws.{objects_room}
use Rattle.paths.proofs.TokenLaws.{constant_declared, mark_allowed, step_along}
use Rattle.paths.proofs.StepLaws.{size_of}
use Rattle.evaluate.proofs.SelectionLaws.{class_selection, constant_selection, mark_selection, everything_selection, both_selection}
use Rattle.evaluate.proofs.LandLaws.{lands_join, lands_token, lands_one, lands_put}
use Rattle.paths.proofs.WalkLaws.{empty_reads}

selection_as : {I : State} {C D : Concept} {set : List ℕ} → D ≡ C → Selection I C set → Selection I D set
selection_as q y = rw q y

-- Places: what is known at one is known at an earlier one.

module _ {w v ls rs : List ℕ} {e : ℕ} (z : Place w v ls rs e) where
  pub place_earlier : {ms ss : List ℕ} {b : ℕ} → length ms ≡ length ls → length ss ≡ length rs → b ≤ e → Place w v ms ss b
  place_earlier q r l =
      record {
        signature = z.signature;
        evaluable = z.evaluable;
        within = omega (arith, z.within);
        room = rw q z.room;
        relations = λ i k t. rw r (z.relations i (omega arith) t);
        few = rw r z.few;
      }

  -- the facts of a kind stand in a row
  pub place_facts : KindsRise v × (entries state_layout v ≤ max_facts)
  place_facts =
      (kinds_rise z.signature v z.evaluable.accepted, facts_few v (passes_7 z.signature v z.evaluable.accepted))

  pub place_few : e ≤ max_tokens
  place_few = omega (arith, z.within, tokens_few w z.evaluable.shape)

  -- a set has room for each object
  pub place_room : {n : ℕ} → n ≡ objects v → n ≤ object_part
  place_room q = omega (arith, objects_room z.evaluable)

  -- a path whose steps have their landings
  pub place_walk : {ms : List ℕ} {b : ℕ} → length ms ≡ length ls → b ≤ e → HasPath w b → Landed w v ms (start_of w b 1) b → Walk w v ms b
  place_walk q l path landed =
      record {
        signature = z.signature;
        evaluable = z.evaluable;
        within = omega (arith, z.within);
        path = path;
        room = rw q z.room;
        landed = landed;
      }

-- The item whose token stands at `at`. The code names the places that it has found.

module _ {w v ls rs : List ℕ} {at : ℕ} (z : Place w v ls rs (suc at)) where
  -- where the last operand starts, the operand before it ends
  pub place_below : {ms ss : List ℕ} {m : ℕ} → length ms ≡ length ls → length ss ≡ length rs → m ≡ start_of w at 1 → Place w v ms ss m
  place_below r s q = place_earlier z r s (omega (arith, start_le w at 1))

  pub class_selected : {A : ℕ} {set : List ℕ} → token_at w at ≡ Class A → Reads w at (Class A) → KindSet v A set
      → ConceptAt w v (suc at) ls ls rs rs (record { start = at; set = set })
  class_selected is t h =
      record {
        start = sym t.1;
        selection = selection_as t.0 (class_selection z.evaluable h);
        landings = lands_one t.1 (ap is_step is);
        size = refl;
      }

  pub everything_selected : {n : ℕ} {set : List ℕ} → token_at w at ≡ Everything → Reads w at Everything → n ≡ objects v → Below n set
      → ConceptAt w v (suc at) ls ls rs rs (record { start = at; set = set })
  everything_selected is t q h =
      record {
        start = sym t.1;
        selection = selection_as t.0 (everything_selection (rw (q ∙ size_of v) at h));
        landings = lands_one t.1 (ap is_step is);
        size = refl;
      }

  pub constant_selected : {a : ℕ} {set : List ℕ} → token_at w at ≡ Constant a → Reads w at (Constant a) → KindSet v (constant_kinds + a) set
      → ConceptAt w v (suc at) ls ls rs rs (record { start = at; set = set })
  constant_selected is t h =
      record {
        start = sym t.1;
        selection =
            selection_as t.0
            (constant_selection z.evaluable (constant_declared z.evaluable at (omega (arith, z.within)) is) h);
        landings = lands_one t.1 (ap is_step is);
        size = refl;
      }

  pub mark_selected : {k : ℕ} {set : List ℕ} → token_at w at ≡ Mark k → Reads w at (Mark k) → KindSet v (mark_kinds + k) set
      → ConceptAt w v (suc at) ls ls rs rs (record { start = at; set = set })
  mark_selected is t h =
      record {
        start = sym t.1;
        selection =
            selection_as t.0
            (mark_selection z.evaluable (mark_allowed z.evaluable at (omega (arith, z.within)) is) h);
        landings = lands_one t.1 (ap is_step is);
        size = refl;
      }

  pub both_selected : {ms ns ss ts : List ℕ} {last first : Found} {set : List ℕ} → token_at w at ≡ Both → Reads w at Both → ConceptAt w v at ls ms rs ss last
      → ConceptAt w v last.start ms ns ss ts first
      → SharedRow first.set last.set 0 set
      → ConceptAt w v (suc at) ls ns rs ts (record { start = first.start; set = set })
  both_selected {ms} {ns} {ss} {ts} {first = first} is t y x h =
      let x = subst (λ (m : ℕ). ConceptAt w v m ms ns ss ts first) y.start x in
      record {
        start = x.start ∙ sym t.1;
        selection = selection_as t.0 (both_selection x.selection y.selection h);
        landings =
            rw t.1
            (lands_token (lands_join y.landings x.landings (start_le w (start_of w at 1) 1) (start_le w at 1)) (omega (arith, start_le w (start_of w at 1) 1, start_le w at 1))
            (ap is_step is));
        size = x.size ∙ y.size;
      }

  pub reached_selected : {ms ss : List ℕ} {b : ℕ} {set : List ℕ} → token_at w at ≡ Reached → Reads w at Reached → PathAt w v at ls ms rs ss b
      → Selection (state_of v) (reached (path_at w at)) set
      → ConceptAt w v (suc at) ls ms rs ss (record { start = b; set = set })
  reached_selected is t y h =
      record {
        start = y.start ∙ sym t.1;
        selection = selection_as t.0 h;
        landings = rw t.1 (lands_token y.landings (start_le w at 1) (ap is_step is));
        size = y.size;
      }

  -- the last path of a common object, whose landings the first one leaves as they are
  pub last_walk : {ms ns ss ts : List ℕ} {m b : ℕ} → HasPath w at → PathAt w v at ls ms rs ss m → PathAt w v m ms ns ss ts b → Walk w v ns at
  last_walk {ms} {ns} {ss} {ts} {m} {b} path y x =
      let x = subst (λ (m : ℕ). PathAt w v m ms ns ss ts b) y.start x in
      let all = lands_join y.landings x.landings (start_le w (start_of w at 1) 1) (start_le w at 1) in
      place_walk z all.size (omega arith) path λ i l k. all.landed i (omega (arith, start_le w (start_of w at 1) 1)) k

  pub common_selected : {ms ns ss ts us : List ℕ} {m b : ℕ} {set : List ℕ} → token_at w at ≡ Common → Reads w at Common → PathAt w v at ls ms rs ss m
      → PathAt w v m ms ns ss ts b
      → Met (state_of v) (path_at w m) (path_at w at) ts us set
      → ConceptAt w v (suc at) ls ns rs us (record { start = b; set = set })
  common_selected {ms} {ns} {ss} {ts} {us} {m} {b} {set} is t y x h =
      let x = subst (λ (m : ℕ). PathAt w v m ms ns ss ts b) y.start x in
      record {
        start = x.start ∙ sym t.1;
        selection = selection_as t.0 (subst (λ (m : ℕ). Selection (state_of v) (common (path_at w m) (path_at w at)) set) y.start h.selection);
        landings =
            rw t.1
            (lands_token (lands_join y.landings x.landings (start_le w (start_of w at 1) 1) (start_le w at 1)) (omega (arith, start_le w (start_of w at 1) 1, start_le w at 1))
            (ap is_step is));
        size = h.size ∙ x.size ∙ y.size;
      }

  pub empty_landed : HasPath w (suc at) → step_at w at ≡ false → PathAt w v (suc at) ls ls rs rs at
  empty_landed path h = record { start = sym (empty_reads w at path h).1; landings = lands_one (empty_reads w at path h).1 h; size = refl }

  -- what the step at `at` reads
  pub step_read : HasPath w (suc at) → So (step_at w at) → (start_of w (suc at) 1 ≡ start_of w (start_of w at 1) 1) × HasConcept w at × HasPath w (start_of w at 1)
  step_read path h =
      let (back, P, q, is) = step_along (token_at w at) h in
      let r = step_reads w at (direction_of back) P path q in
      (r.1, r.2, r.3)

  pub step_landed : {ms ns os ss ts : List ℕ} {landing : Found} {b : ℕ} → HasPath w (suc at) → So (step_at w at) → ConceptAt w v at ls ms rs ss landing
      → Put ms at landing.set ns
      → PathAt w v landing.start ns os ss ts b
      → PathAt w v (suc at) ls os rs ts b
  step_landed {ms} {ns} {os} {ss} {ts} {b = b} path h y p x =
      let x = subst (λ (m : ℕ). PathAt w v m ns os ss ts b) y.start x in
      let r = step_read path h in
      record {
        start = x.start ∙ sym r.0;
        landings =
            rw r.0
            (lands_join (lands_put y.landings (start_le w at 1) y.selection p) x.landings (start_le w (start_of w at 1) 1) (omega (arith, start_le w at 1)));
        size = x.size ∙ y.size;
      }

-- The place after the item's last token.

module _ {w v ls rs : List ℕ} {end : ℕ} (z : Place w v ls rs end) where
  module _ (h : HasConcept w end) where
    pub concept_place : Place w v ls rs (suc (end - 1))
    concept_place = place_earlier z refl refl (omega (arith, concept_next w end h))

    pub concept_put : {ms ns ss ts : List ℕ} {r : Found} → ConceptAt w v (suc (end - 1)) ms ns ss ts r → ConceptAt w v end ms ns ss ts r
    concept_put {ms} {ns} {ss} {ts} {r} y = subst (λ (e : ℕ). ConceptAt w v e ms ns ss ts r) (sym (concept_next w end h)) y

  module _ (h : HasPath w end) where
    pub path_place : Place w v ls rs (suc (end - 1))
    path_place = place_earlier z refl refl (omega (arith, path_next w end h))

    pub path_put : {ms ns ss ts : List ℕ} {b : ℕ} → PathAt w v (suc (end - 1)) ms ns ss ts b → PathAt w v end ms ns ss ts b
    path_put {ms} {ns} {ss} {ts} {b} y = subst (λ (e : ℕ). PathAt w v e ms ns ss ts b) (sym (path_next w end h)) y

module _ {s : Signature} {w v ls : List ℕ} (z : Landable s w v ls) {n : ℕ} (last : n ≡ entries concept_layout w) where
  pub place_last : {words : ℕ} {rs : List ℕ} → Relations w v words → length rs ≡ words → Place w v ls rs n
  place_last r e =
      record {
        signature = s;
        evaluable = z.evaluable;
        within = omega arith;
        room = z.room;
        relations = λ i l t. rw e (r.room (any_of_lem (common_at w) (entries concept_layout w) i (omega arith) (ap is_common t)));
        few = rw e r.few;
      }

  pub concept_last : HasConcept w n
  concept_last = rw last (accepted_concept w z.evaluable.pile).0

  pub selection_last : {ms rs ss : List ℕ} {r : Found} → ConceptAt w v n ls ms rs ss r → Selection (state_of v) (concept_of w) r.set
  unfolding concept_of
  selection_last h = rw (← last) h.selection
