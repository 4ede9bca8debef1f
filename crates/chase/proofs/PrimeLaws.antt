-- The primary part stays in order (Ok): it is well formed, and all that it says follows from the query. Adding classes and
-- merging nodes keep that, and either change nothing or raise the weight; where they change nothing, they were not needed.
use Prim.Native.Nat.{ℕ, ◌+◌, ◌*◌, ◌^◌, ◌≤◌, ◌<◌}
use native.Mathlib.Omega.{arith}
use native.Mathlib.Decide.{ℕ_discrete}
use mathlib.Core.Bool.{Bool, cond}
use mathlib.Core.Logic.{◌⊎◌, inl, inr, ⊎_elim, ◌≢◌}
use mathlib.Core.Path.{◌≡◌, refl, sym, ap, subst, ◌∙◌}
use mathlib.Core.List.{List, map}
use lib.Dec.{eqb, ltb}
use lib.Bits.{bit_or, or_lt}
use lib.ListN.{length, get_or, set, length-set, length-map}
use lib.Seq.{set-get_or, get_or-set_same}
use borrow.Author.Tests.{eq-eqb, ne_eqb, ltb-true, ltb-false}
use Rattle.records.specs.State.{Member}
use Rattle.chase.specs.Task.{Task, nodes}
use Rattle.chase.specs.Primary.{Prime, rep_of, set_of, add, join, merge, total, weight}
use Rattle.records.proofs.General.BoolLaws.{cond_elim}
use Rattle.chase.proofs.Consequence.{Follows}
use Rattle.chase.proofs.AxiomLaws.{Small}
use Rattle.chase.proofs.ClosureLaws.{Fulfils, fulfils_or, or_grows}
use Rattle.records.proofs.General.ListLaws.{set_elim, get_d_map}
use Rattle.chase.proofs.ListLaws.{total_set, total_below, total_map_rise}

pub record Ok (t : Task) (x : Prime) : Type 0 where
  pub reps : length x.reps ≡ nodes t
  pub sets : length x.sets ≡ nodes t
  pub inside : (n : ℕ) → n < nodes t → rep_of x n < nodes t
  pub fixed : (n : ℕ) → n < nodes t → rep_of x (rep_of x n) ≡ rep_of x n
  pub small : (n : ℕ) → n < nodes t → Small t.schema (get_or x.sets n 0)
  pub same : Follows t λ I g. (n : ℕ) → n < nodes t → g n ≡ g (rep_of x n)
  pub sound : Follows t λ I g. (n : ℕ) → n < nodes t → Fulfils I (get_or x.sets n 0) (g n)

-- the classes of c stored in addition at entry i
stored : List ℕ → ℕ → ℕ → List ℕ
stored l i c = set l i (bit_or (get_or l i 0) c)

module _ (l : List ℕ) (i c : ℕ) (h : i < length l) where
  stored_elim : (X : ℕ → ℕ → Type 0) → X i (bit_or (get_or l i 0) c) → (j : ℕ) → X j (get_or l j 0) → X j (get_or (stored l i c) j 0)
  unfolding stored
  stored_elim X new j old =
      set_elim (X j) l i (bit_or (get_or l i 0) c) j h (λ e. subst (λ (k : ℕ). X k (bit_or (get_or l i 0) c)) (sym e) new) (λ _. old)

  stored_grows : (stored l i c ≡ l) ⊎ (total l < total (stored l i c))
  unfolding stored
  stored_grows =
      ⊎_elim (λ e. inl (ap (set l i) e ∙ set-get_or l i 0))
      (λ r. inr (omega (arith, total_set l i (bit_or (get_or l i 0) c) h)))
      (or_grows (get_or l i 0) c)

module _ (t : Task) (x : Prime) (ok : Ok t x) where
  pub set_small : (n : ℕ) → n < nodes t → Small t.schema (set_of x n)
  unfolding set_of
  set_small n h = ok.small (rep_of x n) (ok.inside n h)

  -- the classes of a node follow
  pub set_sound : Follows t λ I g. (n : ℕ) → n < nodes t → Fulfils I (set_of x n) (g n)
  unfolding set_of
  set_sound I g fits n h A a =
      subst (λ (d : ℕ). Member I A d) (sym (ok.same I g fits n h)) (ok.sound I g fits (rep_of x n) (ok.inside n h) A a)

  module _ (i c : ℕ) (h : i < nodes t) (small : Small t.schema c) (sound : Follows t λ I g. Fulfils I c (g i)) where
    slot : i < length x.sets
    slot = omega (arith, ok.sets)

    stored_small : (n : ℕ) → n < nodes t → Small t.schema (get_or (stored x.sets i c) n 0)
    stored_small n k =
        stored_elim x.sets i c slot (λ j v. Small t.schema v)
        (or_lt t.schema.signature.classes (get_or x.sets i 0) c (ok.small i h) small) n
        (ok.small n k)

    stored_sound : Follows t λ I g. (n : ℕ) → n < nodes t → Fulfils I (get_or (stored x.sets i c) n 0) (g n)
    stored_sound I g fits n k =
        stored_elim x.sets i c slot (λ j v. Fulfils I v (g j))
        (fulfils_or I (get_or x.sets i 0) c (g i) (ok.sound I g fits i h) (sound I g fits)) n
        (ok.sound I g fits n k)

  module _ (n c : ℕ) (h : n < nodes t) where
    rep_slot : rep_of x n < length x.sets
    rep_slot = omega (arith, ok.inside n h, ok.sets)

    pub add_grows : Small t.schema c → (Follows t λ I g. Fulfils I c (g n))
        → Ok t (add n c x) × ((add n c x ≡ x) ⊎ (weight x < weight (add n c x)))
    unfolding add set_of rep_of stored
    add_grows small sound =
        let here : Follows t λ I g. Fulfils I c (g (rep_of x n)) = λ I g fits. subst (Fulfils I c) (ok.same I g fits n h)
        (sound I g fits) in (
          record {
            reps = ok.reps;
            sets = length-set x.sets (rep_of x n) (bit_or (set_of x n) c) ∙ ok.sets;
            inside = ok.inside;
            fixed = ok.fixed;
            small = stored_small (rep_of x n) c (ok.inside n h) small here;
            same = ok.same;
            sound = stored_sound (rep_of x n) c (ok.inside n h) small here;
          },
          ⊎_elim (λ e. inl (ap (λ (l : List ℕ). record { reps = x.reps; sets = l }) e)) (λ r. inr (omega arith))
              (stored_grows x.sets (rep_of x n) c rep_slot),
        )

    pub add_fixed : add n c x ≡ x → bit_or (set_of x n) c ≡ set_of x n
    unfolding add set_of rep_of
    add_fixed e =
        sym (get_or-set_same x.sets (rep_of x n) (bit_or (set_of x n) c) 0 rep_slot) ∙ ap (λ (y : Prime). get_or y.sets (rep_of x n) 0) e

  -- two representatives, the lower of which goes to the higher
  module _ (low high : ℕ) (order : low < high) (hh : high < nodes t) (fl : rep_of x low ≡ low) (fh : rep_of x high ≡ high) where
    move : ℕ → ℕ
    move r = cond (eqb r low) high r

    move_low : move low ≡ high
    unfolding move
    move_low = ap (λ (b : Bool). cond b high low) (eq-eqb low low refl)

    move_other : (r : ℕ) → r ≢ low → move r ≡ r
    unfolding move
    move_other r h = ap (λ (b : Bool). cond b high r) (ne_eqb r low h)

    move_elim : (X : ℕ → ℕ → Type 0) → X low high → (r : ℕ) → (r ≢ low → X r r) → X r (move r)
    move_elim X moved r kept =
        elim (ℕ_discrete r low) [
          | yes e ↦ subst (λ (k : ℕ). X k (move k)) (sym e) (subst (X low) (sym move_low) moved)
          | no n ↦ subst (X r) (sym (move_other r n)) (kept n)
        ]

    join_rep : (n : ℕ) → n < nodes t → rep_of (join low high x) n ≡ move (rep_of x n)
    unfolding rep_of join move
    join_rep n h = get_d_map (λ r. cond (eqb r low) high r) x.reps n (omega (arith, ok.reps))

    -- a representative that has moved is one still
    move_fixed : (r : ℕ) → rep_of x r ≡ r → (rep_of x (move r) ≡ move r) × (move (move r) ≡ move r)
    move_fixed r f =
        move_elim (λ r s. rep_of x r ≡ r → (rep_of x s ≡ s) × (move s ≡ s)) (λ _. (fh, move_other high (omega arith))) r
        (λ n g. (g, move_other r n)) f

    join_inside : (n : ℕ) → n < nodes t → rep_of (join low high x) n < nodes t
    join_inside n h =
        subst (λ (r : ℕ). r < nodes t) (sym (join_rep n h)) (move_elim (λ r s. s < nodes t) hh (rep_of x n) (λ _. ok.inside n h))

    join_fixed : (n : ℕ) → n < nodes t → rep_of (join low high x) (rep_of (join low high x) n) ≡ rep_of (join low high x) n
    join_fixed n h =
        let k = move_fixed (rep_of x n) (ok.fixed n h) in
        join_rep _ (join_inside n h) ∙ ap (λ (r : ℕ). move (rep_of x r)) (join_rep n h) ∙ ap move k.0 ∙ k.1 ∙ sym (join_rep n h)

    join_same : (Follows t λ I g. g low ≡ g high) → Follows t λ I g. (n : ℕ) → n < nodes t → g n ≡ g (rep_of (join low high x) n)
    join_same same I g fits n h =
        ok.same I g fits n h ∙ move_elim (λ r s. g r ≡ g s) (same I g fits) (rep_of x n) (λ _. refl) ∙ ap g (sym (join_rep n h))

    move_le : (r : ℕ) → r ≤ move r
    move_le r = move_elim (λ r s. r ≤ s) (omega arith) r (λ _. omega arith)

    join_grows : (Follows t λ I g. g low ≡ g high) → Ok t (join low high x) × (weight x < weight (join low high x))
    unfolding join stored rep_of move
    join_grows same =
        let hl : low < nodes t = omega arith in
        let there : Follows t λ I g. Fulfils I (get_or x.sets low 0) (g high)
        = λ I g fits. subst (Fulfils I (get_or x.sets low 0)) (same I g fits) (ok.sound I g fits low hl) in
        let slot : low < length x.reps = omega (arith, ok.reps) in (
          record {
            reps = length-map x.reps move ∙ ok.reps;
            sets = length-set x.sets high (bit_or (get_or x.sets high 0) (get_or x.sets low 0)) ∙ ok.sets;
            inside = join_inside;
            fixed = join_fixed;
            small = stored_small high (get_or x.sets low 0) hh (ok.small low hl) there;
            same = join_same same;
            sound = stored_sound high (get_or x.sets low 0) hh (ok.small low hl) there;
          },
          ⊎_elim (λ e. omega (arith, ap total e, rises slot)) (λ r. omega (arith, rises slot))
              (stored_grows x.sets high (get_or x.sets low 0) (omega (arith, ok.sets))),
        )
      where
        rises : low < length x.reps → total x.reps < total (map move x.reps)
        rises slot =
            total_map_rise move x.reps low slot
            (subst (λ (r : ℕ). r < move r) (sym fl) (subst (λ (s : ℕ). low < s) (sym move_low) order))
            (λ j h. move_le (get_or x.reps j 0))

  module _ (n m : ℕ) (hn : n < nodes t) (hm : m < nodes t) where
    -- a merge changes nothing where the two have one representative already, and otherwise raises the weight
    merge_cases : (Follows t λ I g. g n ≡ g m)
        → Ok t (merge n m x) × (((merge n m x ≡ x) × (rep_of x n ≡ rep_of x m)) ⊎ (weight x < weight (merge n m x)))
    unfolding merge
    merge_cases same =
        cond_elim Result (ltb (rep_of x n) (rep_of x m))
        (λ b.
        let k = join_grows (rep_of x n) (rep_of x m) (ltb-true _ _ b) (ok.inside m hm) (ok.fixed n hn) (ok.fixed m hm) both in
        (k.0, inr k.1))
        (λ b.
        cond_elim Result (ltb (rep_of x m) (rep_of x n))
        (λ c.
        let k = join_grows (rep_of x m) (rep_of x n) (ltb-true _ _ c) (ok.inside n hn) (ok.fixed m hm) (ok.fixed n hn)
        (λ I g fits. sym (both I g fits)) in
        (k.0, inr k.1))
        (λ c. (ok, inl (refl, omega (arith, ltb-false (rep_of x n) (rep_of x m) b, ltb-false (rep_of x m) (rep_of x n) c)))))
      where
        Result : Prime → Type 0
        Result y = Ok t y × (((y ≡ x) × (rep_of x n ≡ rep_of x m)) ⊎ (weight x < weight y))

        both : Follows t λ I g. g (rep_of x n) ≡ g (rep_of x m)
        both I g fits = sym (ok.same I g fits n hn) ∙ same I g fits ∙ ok.same I g fits m hm

    pub merge_grows : (Follows t λ I g. g n ≡ g m) → Ok t (merge n m x) × ((merge n m x ≡ x) ⊎ (weight x < weight (merge n m x)))
    merge_grows same = let k = merge_cases same in (k.0, ⊎_elim (λ e. inl e.0) inr k.1)

    pub merge_fixed : (Follows t λ I g. g n ≡ g m) → merge n m x ≡ x → rep_of x n ≡ rep_of x m
    merge_fixed same e = ⊎_elim (λ k. k.1) (λ r. absurd (omega (arith, ap weight e))) (merge_cases same).1

  pub weight_bound : weight x ≤ nodes t * nodes t + nodes t * 2 ^ t.schema.signature.classes
  unfolding rep_of
  weight_bound =
      let N = nodes t in
      let a = total_below N x.reps (λ i h. ok.inside i (omega (arith, ok.reps))) in
      let b = total_below (2 ^ t.schema.signature.classes) x.sets (λ i h. ok.small i (omega (arith, ok.sets))) in
      omega (
        arith,
        subst (λ (l : ℕ). total x.reps ≤ l * N) ok.reps a,
        subst (λ (l : ℕ). total x.sets ≤ l * 2 ^ t.schema.signature.classes) ok.sets b,
      )
