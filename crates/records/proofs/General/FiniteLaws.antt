-- Laws of Finite.antt: what a search over the numbers below n tells, and how a loop's next turn extends it.
use Prim.Native.Nat.{ℕ, zero, suc, ◌+◌, ◌≤◌, ◌<◌}
use mathlib.Core.Bool.{Bool, true, false, So, cond, ◌&&◌, ◌||◌, false≢true}
use mathlib.Core.Path.{◌≡◌, refl, sym, ap, subst, ◌∙◌}
use mathlib.Core.Logic.{⊎_elim, ◌↔◌}
use native.Mathlib.Nat.{not-suc-le-zero, eq-or-lt_of_le, le_of_suc-le-suc}
use native.Mathlib.Numerals.{add-one}
use native.Mathlib.Omega.{arith}
use borrow.Author.Tests.{lt-ltb, le-ltb}
use lib.Dec.{ltb}
use mir.Val.{bool_byte}
use Rattle.records.specs.Finite.{all, any, count, least}
use Rattle.records.proofs.General.BoolLaws.{or_false_left, or_false_right, or_true_cases, or_left, or_right, and_left, and_right, and_both, not_both}

-- k is the lowest below n that passes, or n where none does
record First (f : ℕ → Bool) (n k : ℕ) : Type 0 where
  within : k ≤ n
  passes : k < n → So (f k)
  before : (i : ℕ) → i < k → f i ≡ false

module _ (f : ℕ → Bool) where
  pub any_more : (n : ℕ) → any (n + 1) f ≡ (any n f || f n)
  unfolding any
  any_more n = rw add-one

  pub all_more : (n : ℕ) → all (n + 1) f ≡ (all n f && f n)
  unfolding all
  all_more n = rw add-one

  pub count_more : (n : ℕ) → count (n + 1) f ≡ cond (f n) (suc (count n f)) (count n f)
  unfolding count
  count_more n = rw add-one

  pub count_next : (n : ℕ) → So (f n) → count (suc n) f ≡ suc (count n f)
  unfolding count
  count_next n h = ap (λ (b : Bool). cond b (suc (count n f)) (count n f)) h

  pub count_still : (n : ℕ) → f n ≡ false → count (suc n) f ≡ count n f
  unfolding count
  count_still n h = ap (λ (b : Bool). cond b (suc (count n f)) (count n f)) h

  pub count_le : (n : ℕ) → count n f ≤ n
  unfolding count
  count_le zero = omega arith
  count_le (suc n) = pick (f n) (count_le n)
    where
      pick : (t : Bool) → count n f ≤ n → cond t (suc (count n f)) (count n f) ≤ suc n
      pick true h = omega arith
      pick false h = omega arith

  -- a loop that counts goes on
  pub count_turn : (n k : ℕ) (b : Bool) → k ≡ count n f → b ≡ f n → k + bool_byte b ≡ count (n + 1) f
  count_turn n k b e q = rw (count_more n, ← q, e) (one b)
    where
      one : (b : Bool) → count n f + bool_byte b ≡ cond b (suc (count n f)) (count n f)
      one true = omega arith
      one false = omega arith

  count_grows : (n : ℕ) → count n f ≤ count (suc n) f
  unfolding count
  count_grows n = pick (f n)
    where
      pick : (t : Bool) → count n f ≤ cond t (suc (count n f)) (count n f)
      pick true = omega arith
      pick false = omega arith

  pub count_mono : (i n : ℕ) → i ≤ n → count i f ≤ count n f
  count_mono i zero h = let q : i ≡ zero = omega arith in omega (arith, ap (λ (j : ℕ). count j f) q)
  count_mono i (suc n) h =
      ⊎_elim (λ q. omega (arith, ap (λ (j : ℕ). count j f) q))
      (λ l. omega (arith, count_mono i n (le_of_suc-le-suc l), count_grows n)) (eq-or-lt_of_le h)

  pub any_zero : any 0 f ≡ false
  unfolding any
  any_zero = refl

  -- a loop that has found none goes on
  pub any_still : (n : ℕ) → any n f ≡ false → f n ≡ false → any (n + 1) f ≡ false
  any_still n e h = rw (any_more n, e) h

  -- one below n passes
  pub any_of_lem : (n i : ℕ) → i < n → So (f i) → So (any n f)
  unfolding any
  any_of_lem zero i l p = absurd (not-suc-le-zero l)
  any_of_lem (suc n) i l p =
      ⊎_elim (λ e. or_right (any n f) (f n) (subst (λ (k : ℕ). So (f k)) e p)) (λ m. or_left (any n f) (f n) (any_of_lem n i m p))
      (eq-or-lt_of_le (le_of_suc-le-suc l))

  pub any_found : (n : ℕ) → So (any n f) → (i : ℕ) × (i < n) × So (f i)
  unfolding any
  any_found zero e = absurd (false≢true e)
  any_found (suc n) e =
      ⊎_elim (λ p. let (i, l, h) = any_found n p in (i, omega arith, h)) (λ p. (n, omega arith, p)) (or_true_cases (any n f) (f n) e)

  pub any_none : (n : ℕ) → any n f ≡ false → (i : ℕ) → i < n → f i ≡ false
  unfolding any
  any_none zero e i l = absurd (not-suc-le-zero l)
  any_none (suc n) e i l =
      ⊎_elim (λ q. rw q (or_false_right (any n f) (f n) e)) (λ m. any_none n (or_false_left (any n f) (f n) e) i m)
      (eq-or-lt_of_le (le_of_suc-le-suc l))

  pub none_any : (n : ℕ) → ((i : ℕ) → i < n → f i ≡ false) → any n f ≡ false
  unfolding any
  none_any zero h = refl
  none_any (suc n) h = rw (none_any n (λ i l. h i (omega arith))) (h n (omega arith))

  pub all_of : (n : ℕ) → ((i : ℕ) → i < n → So (f i)) → So (all n f)
  unfolding all
  all_of zero h = refl
  all_of (suc n) h = and_both (all n f) (f n) (all_of n (λ i l. h i (omega arith))) (h n (omega arith))

  pub all_at : (n : ℕ) → So (all n f) → (i : ℕ) → i < n → So (f i)
  unfolding all
  all_at zero e i l = absurd (not-suc-le-zero l)
  all_at (suc n) e i l =
      ⊎_elim (λ q. rw q (and_right (all n f) (f n) e)) (λ m. all_at n (and_left (all n f) (f n) e) i m)
      (eq-or-lt_of_le (le_of_suc-le-suc l))

  pub count_zero : (n : ℕ) → count n f ≡ 0 → (i : ℕ) → i < n → f i ≡ false
  unfolding count
  count_zero zero e i l = absurd (not-suc-le-zero l)
  count_zero (suc n) e i l = pick (f n) refl e (λ z m. count_zero n z i m)
    where
      pick : (t : Bool) → f n ≡ t → cond t (suc (count n f)) (count n f) ≡ 0 → (count n f ≡ 0 → i < n → f i ≡ false) → f i ≡ false
      pick true q z h = absurd (omega arith)
      pick false q z h = ⊎_elim (λ r. rw r q) (λ m. h z m) (eq-or-lt_of_le (le_of_suc-le-suc l))

  pub none_count : (n : ℕ) → ((i : ℕ) → i < n → f i ≡ false) → count n f ≡ 0
  unfolding count
  none_count zero h = refl
  none_count (suc n) h = rw (h n (omega arith)) (none_count n (λ i l. h i (omega arith)))

  -- where what passes comes first, it ends at the count
  pub count_first : (n : ℕ) → ((i j : ℕ) → i ≤ j → j < n → So (f j) → So (f i)) → (i : ℕ) → i < n → f i ≡ ltb i (count n f)
  unfolding count
  count_first zero down i l = absurd (not-suc-le-zero l)
  count_first (suc n) down i l = pick (f n) refl (count_first n (λ i j h m. down i j h (omega arith)))
    where
      full : So (f n) → ((i : ℕ) → i < n → f i ≡ ltb i (count n f)) → count n f ≡ n
      full p h =
          ⊎_elim (λ e. e)
          (λ m. absurd (not_both (f (count n f)) (down (count n f) n (count_le n) (omega arith) p) (h (count n f) m ∙ le-ltb (count n f) (count n f) (omega arith))))
          (eq-or-lt_of_le (count_le n))

      pick : (t : Bool) → f n ≡ t → ((i : ℕ) → i < n → f i ≡ ltb i (count n f)) → f i ≡ ltb i (cond t (suc (count n f)) (count n f))
      pick true p h = rw (full p h) (down i n (le_of_suc-le-suc l) (omega arith) p ∙ sym (lt-ltb i (suc n) l))
      pick false p h = ⊎_elim (λ e. rw e (p ∙ sym (le-ltb n (count n f) (count_le n)))) (λ m. h i m) (eq-or-lt_of_le (le_of_suc-le-suc l))

  -- those past the last that passes do not count
  pub count_past : (i n : ℕ) → i ≤ n → ((j : ℕ) → i ≤ j → j < n → f j ≡ false) → count n f ≡ count i f
  count_past i zero h none = let q : zero ≡ i = omega arith in ap (λ (j : ℕ). count j f) q
  count_past i (suc n) h none =
      ⊎_elim (λ q. ap (λ (j : ℕ). count j f) (sym q))
      (λ l. count_still n (none n (le_of_suc-le-suc l) (omega arith)) ∙ count_past i n (le_of_suc-le-suc l) (λ j k m. none j k (omega arith)))
      (eq-or-lt_of_le h)

  -- where just one passes, any two that pass are the same
  pub count_one : (n : ℕ) → count n f ≡ 1 → (i j : ℕ) → i < n → j < n → So (f i) → So (f j) → i ≡ j
  unfolding count
  count_one zero e i j l m p q = absurd (not-suc-le-zero l)
  count_one (suc n) e i j l m p q = pick (f n) refl e (λ z l m. count_one n z i j l m p q)
    where
      last : f n ≡ false → (k : ℕ) → k < suc n → So (f k) → k < n
      last t k h r = ⊎_elim (λ z. absurd (not_both (f k) r (rw z t))) (λ u. u) (eq-or-lt_of_le (le_of_suc-le-suc h))

      only : count n f ≡ 0 → (k : ℕ) → k < suc n → So (f k) → k ≡ n
      only z k h r = ⊎_elim (λ u. u) (λ u. absurd (not_both (f k) r (count_zero n z k u))) (eq-or-lt_of_le (le_of_suc-le-suc h))

      pick : (t : Bool) → f n ≡ t → cond t (suc (count n f)) (count n f) ≡ 1 → (count n f ≡ 1 → i < n → j < n → i ≡ j) → i ≡ j
      pick true t z h = only (omega arith) i l p ∙ sym (only (omega arith) j m q)
      pick false t z h = h z (last t i l p) (last t j m q)

  pub count_found : (n : ℕ) → 0 < count n f → So (any n f)
  count_found n h = pick (any n f) refl
    where
      pick : (t : Bool) → any n f ≡ t → So t
      pick true e = refl
      pick false e = absurd (not-suc-le-zero (rw (none_count n (any_none n e)) at h))

  -- The lowest below n that passes, or n.
  first_least : (n : ℕ) → First f n (least n f)
  unfolding any least
  first_least zero = record { within = omega arith; passes = λ l. absurd (not-suc-le-zero l); before = λ i l. absurd (not-suc-le-zero l) }
  first_least (suc n) = pick (any n f) (f n) refl refl (first_least n)
    where
      below : First f n (least n f) → So (any n f) → least n f < n
      below z e =
          let (i, l, p) = any_found n e in
          ⊎_elim (λ q. absurd (not_both (f i) p (z.before i (omega arith)))) (λ m. m) (eq-or-lt_of_le z.within)

      pick : (a b : Bool) → any n f ≡ a → f n ≡ b → First f n (least n f) → First f (suc n) (cond a (least n f) (cond b n (suc n)))
      pick true b e g z = record { within = omega arith; passes = λ l. z.passes (below z e); before = z.before }
      pick false true e g z = record { within = omega arith; passes = λ l. g; before = any_none n e }
      pick false false e g z = record { within = omega arith; passes = λ l. absurd (omega arith); before = any_none (suc n) (rw e g) }

  pub least_le : (n : ℕ) → least n f ≤ n
  least_le n = (first_least n).within

  pub least_passes : (n : ℕ) → least n f < n → So (f (least n f))
  least_passes n = (first_least n).passes

  pub least_first : (n i : ℕ) → i < least n f → f i ≡ false
  least_first n = (first_least n).before

  pub least_none : (n : ℕ) → least n f ≡ n → (i : ℕ) → i < n → f i ≡ false
  least_none n e i l = least_first n i (omega arith)

  -- nothing else is the lowest
  pub least_is : (n k : ℕ) → k ≤ n → (k < n → So (f k)) → ((i : ℕ) → i < k → f i ≡ false) → least n f ≡ k
  least_is n k l p h =
      let given : First f n k = record { within = l; passes = p; before = h } in
      omega (arith, none_lower given (first_least n), none_lower (first_least n) given)
    where
      none_lower : {j k : ℕ} → First f n j → First f n k → j < k → ⊥
      none_lower {j} {k} y z m = not_both (f j) (y.passes (omega arith)) (z.before j m)

-- What a search says, from what its test says.

pub all_iff : {n : ℕ} {f : ℕ → Bool} {X : ℕ → Type 0} → ((i : ℕ) → So (f i) ↔ X i) → So (all n f) ↔ ((i : ℕ) → i < n → X i)
all_iff {n} {f} h = (λ e i l. (h i).0 (all_at f n e i l), λ g. all_of f n (λ i l. (h i).1 (g i l)))

pub any_iff : {n : ℕ} {f : ℕ → Bool} {X : ℕ → Type 0} → ((i : ℕ) → So (f i) ↔ X i) → So (any n f) ↔ ((i : ℕ) × (i < n) × X i)
any_iff {n} {f} h = (λ e. let (i, l, p) = any_found f n e in (i, l, (h i).0 p), λ s. any_of_lem f n s.0 s.1 ((h s.0).1 s.2))

-- two searches that agree up to the first that passes
pub any_same : (f g : ℕ → Bool) (n : ℕ) → ((i : ℕ) → i < n → ((j : ℕ) → j < i → f j ≡ false) → f i ≡ g i) → any n f ≡ any n g
unfolding any
any_same f g zero h = refl
any_same f g (suc n) h = pick (any n f) refl (any_same f g n (λ i l. h i (omega arith)))
  where
    pick : (t : Bool) → any n f ≡ t → any n f ≡ any n g → (any n f || f n) ≡ (any n g || g n)
    pick true e q = rw (← q, e)
    pick false e q = rw (← q, e) (h n (omega arith) (any_none f n e))

pub count_same : (f g : ℕ → Bool) (n : ℕ) → ((i : ℕ) → i < n → f i ≡ g i) → count n f ≡ count n g
unfolding count
count_same f g zero h = refl
count_same f g (suc n) h = rw (h n (omega arith), count_same f g n (λ i l. h i (omega arith)))

pub least_same : (f g : ℕ → Bool) (n : ℕ) → ((i : ℕ) → i < n → f i ≡ g i) → least n f ≡ least n g
least_same f g n same =
    least_is f n (least n g) (least_le g n) (λ h. same (least n g) h ∙ least_passes g n h)
    (λ i h. same i (omega (arith, least_le g n)) ∙ least_first g n i h)
