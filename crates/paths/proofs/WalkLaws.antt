-- A path whose landings are known, walked step by step: what its last token says, and what is left before it.
use Prim.Native.Nat.{ℕ, suc, ◌+◌, ◌-◌, ◌*◌, ◌^◌, ◌≤◌, ◌<◌}
use mathlib.Core.Bool.{Bool, false, So, true≢false}
use mathlib.Core.List.{List}
use mathlib.Core.Path.{◌≡◌, refl, sym, ap, subst, ◌∙◌}
use native.Mathlib.Omega.{arith}
use lib.ListN.{length, get_or}
use mir.Syntax.{w16}
use mir.Val.{Fits}
use Rattle.records.specs.declared.token.Token.{Token}
use Rattle.records.specs.declared.token.Token.TheVariants.{Class, Everything, Constant, Both, Empty, Forward, Backward, Reached, Common, Mark}
use Rattle.records.specs.Concept.{direction_of, reached, Path, empty}
use Rattle.records.specs.Layout.{entries, state_layout, object_part, max_tokens, max_objects}
use Rattle.records.specs.ConceptRecord.{token_at}
use Rattle.records.specs.StateRecord.{objects, state_of}
use Rattle.records.specs.ConceptRefusal.{is_step, step_at}
use Rattle.records.specs.Helpers.Reading.{start_of, concept_at, path_at, HasPath}
use Rattle.records.proofs.AcceptedLaws.{tokens_few, passes_7, facts_few}
use Rattle.records.proofs.PileLaws.{start_le}
use Rattle.records.proofs.ReadingLaws.{ReadsStep, ReadsPath, path_reads, step_reads, path_next}
use Rattle.index.proofs.KindLaws.{kinds_rise}
use Rattle.paths.specs.declared.steps.Step.{Step}
use Rattle.std.specs.Prelude.{Some, None, is_some}
use Rattle.std.proofs.lemmas.Option.{same_Some}
use Rattle.rows.specs.Rows.{Below}
use Rattle.paths.specs.Steps.{along, step_of, Followable, Origins}
use Rattle.paths.specs.Landings.{Landing, Walk}
use Rattle.rows.specs.Selection.{set_words, Selection}
use Rattle.paths.specs.Relation.{Diagonal, Stepped, Related}
use Rattle.paths.specs.declared.relation.Bases.{Bases}
use Rattle.paths.proofs.FactLaws.{objects_room, end_inside}
use Rattle.paths.proofs.TokenLaws.{named, named_small, step_along, step_found}
use Rattle.paths.proofs.StepLaws.{size_of}
use Rattle.paths.proofs.ReachLaws.{Reaching, reaching_all, reaching_more, reaching_end}
use Rattle.paths.proofs.MeetLaws.{empty_related, step_related}

-- the step whose token stands at a place: along which attribute, what it reads, and what it lands on
pub record StepHere (w v landings : List ℕ) (at : ℕ) (x : Step) : Type 0 where
  pub back : Bool
  pub attribute : ℕ
  pub is : x ≡ along back attribute
  pub reads : ReadsStep w at (direction_of back) attribute
  pub lands : Landing v (concept_at w at) landings at

step_kind : (t : Token) {x : Step} → named t < 2 ^ 16 → step_of t ≡ Some x → x.kind < 2 ^ 17
step_kind (Class A) h q = absurd (cc)
step_kind Everything h q = absurd (cc)
step_kind (Constant a) h q = absurd (cc)
step_kind Both h q = absurd (cc)
step_kind Empty h q = absurd (cc)
step_kind (Forward P) h q = rw (← (same_Some _ _ q)) (omega arith)
step_kind (Backward P) h q = rw (← (same_Some _ _ q)) (omega arith)
step_kind Reached h q = absurd (cc)
step_kind Common h q = absurd (cc)
step_kind (Mark k) h q = absurd (cc)

-- a path whose last token is no step is empty
pub empty_reads : (w : List ℕ) (at : ℕ) → HasPath w (suc at) → step_at w at ≡ false → (path_at w (suc at) ≡ empty) × (start_of w (suc at) 1 ≡ at)
empty_reads w at path h = go (token_at w at) h (path_reads w at (token_at w at) path refl)
  where
    go : (t : Token) → is_step t ≡ false → ReadsPath w at t → (path_at w (suc at) ≡ empty) × (start_of w (suc at) 1 ≡ at)
    go (Class A) k r = absurd r
    go Everything k r = absurd r
    go (Constant a) k r = absurd r
    go Both k r = absurd r
    go Empty k r = r
    go (Forward P) k r = absurd (true≢false k)
    go (Backward P) k r = absurd (true≢false k)
    go Reached k r = absurd r
    go Common k r = absurd r
    go (Mark j) k r = absurd r

module _ {w v landings : List ℕ} {e : ℕ} (z : Walk w v landings e) where
  pub walk_few : e ≤ max_tokens
  walk_few = omega (arith, z.within, tokens_few w z.evaluable.shape)

  pub walk_room : objects v ≤ max_objects
  walk_room = objects_room z.evaluable

  -- the row of the last token
  pub walk_last : 1 ≤ e → (e - 1) * set_words + set_words ≤ length landings
  walk_last l = omega (arith, z.within, z.room)

  pub walk_suc : Walk w v landings (suc (e - 1))
  walk_suc = subst (Walk w v landings) (path_next w e z.path) z

  pub walk_followable : ((k : ℕ) → Fits w16 (get_or w k 0)) → (at : ℕ) {x : Step} → step_of (token_at w at) ≡ Some x → Followable v x
  walk_followable fits at {x} q =
      record {
        rise = kinds_rise z.signature v z.evaluable.accepted;
        few = facts_few v (passes_7 z.signature v z.evaluable.accepted);
        room = walk_room;
        inside = end_inside z.evaluable;
        kind = step_kind (token_at w at) (named_small w fits at refl) q;
      }

module _ {w v landings : List ℕ} {at : ℕ} (z : Walk w v landings (suc at)) where
  pub walk_landing : at * set_words + set_words ≤ length landings
  walk_landing = omega (arith, z.within, z.room)

  -- the last token is no step, and so the path is empty
  pub walk_empty : step_of (token_at w at) ≡ None → path_at w (suc at) ≡ empty
  walk_empty q = (empty_reads w at z.path (step_found (token_at w at) ∙ ap is_some q)).0

  module _ {x : Step} (q : step_of (token_at w at) ≡ Some x) where
    pub step_here : StepHere w v landings at x
    step_here =
        let h : So (step_at w at) = step_found (token_at w at) ∙ ap is_some q in
        let (back, P, token, is) = step_along (token_at w at) h in
        let r = step_reads w at (direction_of back) P z.path token in
        record {
          back = back;
          attribute = P;
          is = same_Some _ _ (sym q ∙ is);
          reads = r;
          lands = z.landed at (omega (arith, r.1, start_le w (start_of w at 1) 1, start_le w at 1)) (omega arith) h;
        }

    -- the path before the step
    pub walk_before : {m : ℕ} → m ≡ start_of w at 1 → Walk w v landings m
    walk_before {m} e =
        let s = step_here in
        subst (Walk w v landings) (sym e)
        (record {
          signature = z.signature;
          evaluable = z.evaluable;
          within = omega (arith, z.within, start_le w at 1);
          path = s.reads.3;
          room = z.room;
          landed = λ i a b. z.landed i (omega (arith, s.reads.1)) (omega (arith, start_le w at 1));
        })

-- The walk backward, for "reached".

pub few_size : {w v landings : List ℕ} {e : ℕ} → Walk w v landings e → (state_of v).size ≤ object_part
few_size {v = v} z = omega (arith, walk_room z, size_of v)

pub reach_starts : {w v landings : List ℕ} {e n : ℕ} {set : List ℕ} → Walk w v landings e → n ≡ objects v → Below n set
    → Reaching (state_of v) (path_at w e) (path_at w (suc (e - 1))) set
reach_starts {w} {v} {landings} {e} {n} {set} z q h =
    subst (λ (i : ℕ). Reaching (state_of v) (path_at w e) (path_at w i) set) (path_next w e z.path) (reaching_all (few_size z) (q ∙ size_of v) h)

pub reach_on : {w v landings : List ℕ} {at m : ℕ} {x : Step} {p : Path} {set before : List ℕ} → Walk w v landings (suc at)
    → step_of (token_at w at) ≡ Some x
    → m ≡ start_of w at 1
    → Followable v x
    → Origins v x landings at set (entries state_layout v) before
    → Reaching (state_of v) p (path_at w (suc at)) set
    → Reaching (state_of v) p (path_at w (suc (m - 1))) before
reach_on {w} {v} {landings} {at} {m} {x} {p} {set} {before} z q e ok o r =
    let s = step_here z q in
    let b = walk_before z q e in
    let d = reaching_more s.back s.attribute (subst (Followable v) s.is ok) s.lands
    (subst (λ (p' : Path). Reaching (state_of v) p p' set) s.reads.0 r)
    (subst (λ (y : Step). Origins v y landings at set (entries state_layout v) before) s.is o)
    in
    subst (λ (i : ℕ). Reaching (state_of v) p (path_at w i) before) (sym e ∙ path_next w m b.path) d

pub reach_ends : {w v landings : List ℕ} {at : ℕ} {p : Path} {set : List ℕ} → Walk w v landings (suc at) → step_of (token_at w at) ≡ None
    → Reaching (state_of v) p (path_at w (suc at)) set
    → Selection (state_of v) (reached p) set
reach_ends {v = v} {p = p} {set = set} z h r =
    reaching_end (few_size z) (subst (λ (q : Path). Reaching (state_of v) p q set) (walk_empty z h) r)

-- The walk forward, for "common object".

pub relate_on : {w v landings : List ℕ} {at m : ℕ} {x : Step} {rel spare k : ℕ} {us ws vs : List ℕ} → Walk w v landings (suc at)
    → step_of (token_at w at) ≡ Some x
    → m ≡ start_of w at 1
    → Followable v x
    → Related (state_of v) (path_at w m) (record { rel = spare; spare = rel; blocks = k }) us ws
    → Stepped v x landings at (record { rel = rel; spare = spare; blocks = k }) ws (entries state_layout v) vs
    → Related (state_of v) (path_at w (suc at)) (record { rel = rel; spare = spare; blocks = k }) us vs
relate_on {w} {v} {landings} {at} {m} {x} {rel} {spare} {k} {us} {ws} {vs} z q e ok r o =
    let s = step_here z q in
    let d = step_related s.back s.attribute (subst (Followable v) s.is ok) s.lands
    (subst (λ (i : ℕ). Related (state_of v) (path_at w i) (record { rel = spare; spare = rel; blocks = k }) us ws) e r)
    (subst (λ (y : Step). Stepped v y landings at (record { rel = rel; spare = spare; blocks = k }) ws (entries state_layout v) vs) s.is o)
    in
    subst (λ (p : Path). Related (state_of v) p (record { rel = rel; spare = spare; blocks = k }) us vs) (sym s.reads.0) d

pub relate_starts : {w v landings : List ℕ} {at n : ℕ} {b : Bases} {ws vs : List ℕ} → Walk w v landings (suc at) → step_of (token_at w at) ≡ None
    → n ≡ objects v
    → Diagonal n b ws vs
    → Related (state_of v) (path_at w (suc at)) b ws vs
relate_starts {v = v} {b = b} {ws = ws} {vs = vs} z h q f =
    subst (λ (p : Path). Related (state_of v) p b ws vs) (sym (walk_empty z h)) (empty_related {b = b} (q ∙ size_of v) f)

pub related_at : {w v landings : List ℕ} {e : ℕ} {b : Bases} {ws vs : List ℕ} → Walk w v landings e
    → Related (state_of v) (path_at w (suc (e - 1))) b ws vs
    → Related (state_of v) (path_at w e) b ws vs
related_at {w} {v} {landings} {e} {b} {ws} {vs} z r =
    subst (λ (i : ℕ). Related (state_of v) (path_at w i) b ws vs) (sym (path_next w e z.path)) r
