-- The targets are the candidate's pairs (targets_are), and they ascend strictly (targets_ascend): the query's values stand
-- before the made objects, and those before the closing object.
use Prim.Native.Nat.{ℕ, zero, suc, ◌≤◌, ◌<◌}
use native.Mathlib.Omega.{arith}
use mathlib.Core.Bool.{Bool, So, cond}
use mathlib.Core.List.{List, [], ◌∷◌, ◌++◌}
use mathlib.Core.Logic.{◌↔◌, ◌⊎◌, inl, inr, ⊎_elim}
use mathlib.Core.Path.{◌≡◌, refl, sym, ap, subst}
use lib.Dec.{eqb}
use borrow.Author.Tests.{eq-eqb}
use Rattle.records.specs.State.{Related}
use Rattle.records.specs.Schema.{Schema}
use Rattle.records.specs.Helpers.Loops.{upto}
use Rattle.chase.specs.Task.{Task, WellFormed}
use Rattle.chase.specs.Primary.{primary}
use Rattle.chase.specs.Ground.{Ground, listing, ground}
use Rattle.chase.specs.Forest.{Forest, bare, size, kid, push, lacks}
use Rattle.chase.specs.Candidate.{links, chased, candidate_of, forest, candidate}
use Rattle.chase.specs.Targets.{targets}
use Rattle.records.proofs.General.BoolLaws.{or_left, or_right, cond_elim}
use Rattle.records.proofs.General.AllLaws.{All, Mem, all_append, all_map, mem_left, mem_right, mem_split}
use Rattle.records.proofs.General.Ascending.{Ascends, ascends_append}
use Rattle.records.proofs.General.CountLaws.{up_to}
use Rattle.chase.proofs.ClosingLaws.{pair_cases, pair_kept, pair_closing}
use Rattle.chase.proofs.GroundLaws.{Grounded, node_of}
use Rattle.chase.proofs.ForestLaws.{Grown, ground_size, kid_inside}
use Rattle.chase.proofs.WalkLaws.{push_all}
use Rattle.chase.proofs.CandidateLaws.{pair_is, link_inside, room, closing_room}
use Rattle.chase.proofs.Coverage.{push_here, push_later}
use Rattle.chase.proofs.Answers.{ground_is, forest_is}

-- the numbers that pass a test, as a list
abbrev passing : (ℕ → Bool) → ℕ → List ℕ
passing test n = listing test (λ e. e) n

passing_is : (test : ℕ → Bool) (n e : ℕ) → Mem e (passing test n) → (e < n) × So (test e)
unfolding listing upto
passing_is test zero e h = absurd h
passing_is test (suc n) e h =
    cond_elim {A = List ℕ} (λ l. Mem e l → (e < suc n) × So (test e)) (test n)
    (λ b h.
    ⊎_elim (λ k. let r = passing_is test n e k in (omega (arith, r.0), r.1))
    (λ k. ⊎_elim (λ q. (omega arith, subst (λ (i : ℕ). So (test i)) q b)) (λ z. absurd z) k)
    (mem_split e (passing test n) (n ∷ []) h))
    (λ b h. let r = passing_is test n e h in (omega (arith, r.0), r.1)) h

passing_of : (test : ℕ → Bool) (n e : ℕ) → e < n → So (test e) → Mem e (passing test n)
unfolding listing upto
passing_of test zero e h p = absurd (omega arith)
passing_of test (suc n) e h p =
    up_to (λ i. So (test i) → Mem i (passing test (suc n))) n
    (λ i k q. cond_elim {A = List ℕ} (Mem i) (test n) (λ _. mem_left i (passing test n) (n ∷ []) (passing_of test n i k q))
    (λ _. passing_of test n i k q))
    (λ q. subst (λ (b : Bool). Mem n (cond b (passing test n ++ (n ∷ [])) (passing test n))) (sym q)
    (mem_right n (passing test n) (n ∷ []) (inl refl))) e h p

passing_below : (test : ℕ → Bool) (n : ℕ) → All (λ e. e < n) (passing test n)
unfolding listing upto
passing_below test zero = tt
passing_below test (suc n) =
    let h = all_map {Y = λ e. e < suc n} (λ e k. omega arith) (passing test n) (passing_below test n) in
    cond_elim {A = List ℕ} (All (λ e. e < suc n)) (test n)
    (λ _. all_append (λ e. e < suc n) (passing test n) (n ∷ []) h (omega arith, tt)) (λ _. h)

passing_ascends : (test : ℕ → Bool) (n : ℕ) → Ascends (passing test n)
unfolding listing upto
passing_ascends test zero = tt
passing_ascends test (suc n) =
    let h = passing_ascends test n in
    cond_elim {A = List ℕ} Ascends (test n)
    (λ _. ascends_append (passing test n) (n ∷ []) n h (passing_below test n) (tt, tt) (omega arith, tt)) (λ _. h)

push_ascends : (k : ℕ) (l : List ℕ) → ((e : ℕ) → k ≡ suc e → All (λ y. e < y) l) → Ascends l → Ascends (push k l)
push_ascends zero l h a = a
push_ascends (suc e) l h a = (h e refl, a)

push_is : (k e : ℕ) (l : List ℕ) → Mem e (push k l) → (k ≡ suc e) ⊎ Mem e l
push_is zero e l h = inr h
push_is (suc k) e l (inl q) = inl (ap suc q)
push_is (suc k) e l (inr h) = inr h

module _ (t : Task) (G : Ground) (node : ℕ → ℕ) (T : Forest) (ok : Grounded t G node) (valid : Grown t.schema G bare T) (P d : ℕ) where
  abbrev S : Schema
  S = t.schema

  -- the parts of the list
  asked : List ℕ
  asked = passing (links G P d) G.objects

  closing : List ℕ
  closing = cond (lacks S G T P d) (size G T ∷ []) []

  closing_of : So (lacks S G T P d) → Mem (size G T) closing
  unfolding closing
  closing_of h = subst (λ (b : Bool). Mem (size G T) (cond b (size G T ∷ []) [])) (sym h) (inl refl)

  closing_is : (e : ℕ) → Mem e closing → So (lacks S G T P d) × (size G T ≡ e)
  unfolding closing
  closing_is e h =
      cond_elim {A = List ℕ} (λ l. Mem e l → So (lacks S G T P d) × (size G T ≡ e)) (lacks S G T P d)
      (λ b k. (b, ⊎_elim (λ q. q) (λ z. absurd z) k)) (λ _ k. absurd k) h

  pub targets_are : (e : ℕ) → Related (candidate_of S G T) P d e ↔ Mem e (targets S G T P d)
  unfolding targets asked closing
  targets_are e = (to, from)
    where
      to : Related (candidate_of S G T) P d e → Mem e (targets S G T P d)
      to r =
          ⊎_elim
          (λ p.
          ⊎_elim
          (λ l. mem_left e asked _ (passing_of (links G P d) G.objects e (link_inside t G node ok P d e l).1 l))
          (λ k. mem_right e asked _ (push_here (kid G T P d) e closing k)) (pair_is S G T P d e p))
          (λ l. mem_right e asked _
          (push_later (kid G T P d) e closing (subst (λ (i : ℕ). Mem i closing) (sym l.1) (closing_of l.0))))
          (pair_cases (chased S G T) (lacks S G T) (size G T) P d e r)

      from : Mem e (targets S G T P d) → Related (candidate_of S G T) P d e
      from m =
          ⊎_elim
          (λ a.
          pair_kept (chased S G T) (lacks S G T) (size G T) P d e
          (or_left (links G P d e) (eqb (kid G T P d) (suc e)) (passing_is (links G P d) G.objects e a).1))
          (λ a.
          ⊎_elim
          (λ k.
          pair_kept (chased S G T) (lacks S G T) (size G T) P d e
          (or_right (links G P d e) (eqb (kid G T P d) (suc e)) (eq-eqb (kid G T P d) (suc e) k)))
          (λ b.
          let c = closing_is e b in
          subst (Related (candidate_of S G T) P d) c.1 (pair_closing (chased S G T) (lacks S G T) (size G T) P d c.0))
          (push_is (kid G T P d) e closing a))
          (mem_split e asked (push (kid G T P d) closing) m)

  closing_all : (X : ℕ → Type 0) → X (size G T) → All X closing
  unfolding closing
  closing_all X h = cond_elim {A = List ℕ} (All X) (lacks S G T P d) (λ _. (h, tt)) (λ _. tt)

  closing_ascends : Ascends closing
  unfolding closing
  closing_ascends = cond_elim {A = List ℕ} Ascends (lacks S G T P d) (λ _. (tt, tt)) (λ _. tt)

  pub targets_ascend : Ascends (targets S G T P d)
  unfolding targets asked closing
  targets_ascend =
      ascends_append asked (push (kid G T P d) closing) G.objects (passing_ascends (links G P d) G.objects)
      (passing_below (links G P d) G.objects)
      (push_ascends (kid G T P d) closing (λ e q. closing_all (λ y. e < y) (kid_inside t.schema G valid P d e q).1) closing_ascends)
      (push_all (λ y. G.objects ≤ y) (kid G T P d) closing (λ e q. (kid_inside t.schema G valid P d e q).0)
      (closing_all (λ y. G.objects ≤ y) (ground_size G T)))

-- .. of the candidate of a task
module _ (t : Task) (formed : WellFormed t) (P d : ℕ) where
  pub candidate_targets : (e : ℕ) → Related (candidate t) P d e ↔ Mem e (targets t.schema (ground t) (forest t) P d)
  candidate_targets = targets_are t (ground t) (node_of t (primary t)) (forest t) (ground_is t formed) (forest_is t formed).0 P d

  pub candidate_ascends : Ascends (targets t.schema (ground t) (forest t) P d)
  candidate_ascends = targets_ascend t (ground t) (node_of t (primary t)) (forest t) (ground_is t formed) (forest_is t formed).0 P d

  -- a value of an object is an object
  pub target_inside : (e : ℕ) → d < (candidate t).size → Related (candidate t) P d e → e < (candidate t).size
  target_inside e h r =
      let S = t.schema in
      let G = ground t in
      let T = forest t in
      let node = node_of t (primary t) in
      let ok = ground_is t formed in
      let valid = (forest_is t formed).0 in
      ⊎_elim
      (λ p.
      ⊎_elim (λ l. omega (arith, (link_inside t G node ok P d e l).1, ground_size G T, room S G T))
      (λ k. omega (arith, (kid_inside S G valid P d e k).1, room S G T)) (pair_is S G T P d e p))
      (λ l. omega (arith, l.1, closing_room t formed G node T ok valid P d h l.0))
      (pair_cases (chased S G T) (lacks S G T) (size G T) P d e r)
