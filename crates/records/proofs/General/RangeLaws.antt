-- Chains over a range of numbers, and over a slice by its places, in this repository's own words: what `any`, `find`, `count`,
-- `sum` and `fold` give is what Finite.antt and Loops.antt say of the numbers below n. Each law takes the call's clause `ran` and
-- what one call of the closure gives.
use Prim.Native.Nat.{ℕ, zero, suc, ◌+◌, ◌-◌, ◌<◌}
use mathlib.Core.Bool.{Bool, true, false, false≢true, cond, ◌||◌, or-false}
use mathlib.Core.Path.{◌≡◌, refl, sym, ap, subst, ◌∙◌}
use mathlib.Core.List.{List, [], ◌∷◌, ◌++◌, map}
use native.Mathlib.Decide.{dec_lt}
use borrow.Author.Tests.{lt-ltb, le-ltb}
use lib.Dec.{ltb}
use native.Mathlib.Nat.{add-zero, zero-add, sub-zero}
use native.Mathlib.Omega.{arith}
use lib.ListN.{length, get_or}
use Rattle.std.specs.List.{range_with_len, list_any, find, fold, sum_by, count_by, FoldsTo}
use Rattle.std.specs.Option.{MatchOption, option_or, option_map}
use Rattle.std.specs.Bool.{⊤}
use Rattle.std.specs.Fn.{Called, CalledAt}
use Rattle.std.specs.Iterator.{YieldsThen, Drains}
use Rattle.std.specs.Iterator.Runs.{EachRunFrom}
use Rattle.std.specs.Iterator.Adapters.{filter_source, filter_callee, filter_steps, map_source, map_callee}
use Rattle.std.specs.declared.ops.Range.{Range}
use Rattle.std.specs.declared.iter.Map.{Map}
use Rattle.std.specs.declared.iter.Filter.{Filter}
use Rattle.std.proofs.iter.Yields.{nat_range_steps, fronts}
use Rattle.std.specs.declared.slice.Iter.{Iter}
use Rattle.std.specs.Slice.Iter.{iter_rest}
use denote.Param.Members.{Mut}
use denote.Ref.{Bor}
use Rattle.std.proofs.lemmas.Iterator.{YieldsList-from_slice, YieldsList-from_range, YieldsList-from_map, maps}
use Rattle.std.proofs.lemmas.Iterator.Search.{any_from_yields_List, find_from_yields_List}
use Rattle.std.proofs.lemmas.Iterator.Consumers.{YieldsList-from_filter, count_from_yields_List, sum_by_from_yields_List, fits_by_from_yields_list, fold_from_yields_List}
use Rattle.std.specs.Prelude.{Option, Some, None}
use Rattle.std.proofs.lemmas.List.FromFn.{fill_by_all}
use Rattle.std.proofs.lemmas.List.Folds.{fold-map, list_any-append, find-append}
use Rattle.std.proofs.lemmas.List.Sums.{fold_push, sum_by_push, length-filter}
use Rattle.records.specs.Finite.{any, count, sum, least}
use Rattle.records.specs.Helpers.Loops.{upto}
use Rattle.records.proofs.General.FiniteLaws.{any_found, any_none, least_first, least_passes}

-- one number more at the end
range_more : (a n : ℕ) → range_with_len a (suc n) ≡ range_with_len a n ++ (a + n) ∷ []
range_more a zero = rw add-zero
range_more a (suc n) =
    let e : a + 1 + n ≡ a + suc n = omega arith in
    ap (λ (l : List ℕ). a ∷ l) (subst (λ (j : ℕ). range_with_len (a + 1) (suc n) ≡ range_with_len (a + 1) n ++ j ∷ []) e (range_more (a + 1) n))

pub any_of_range : (f : ℕ → Bool) (a n : ℕ) → list_any f (range_with_len a n) ≡ any n (λ i. f (a + i))
unfolding any
any_of_range f a zero = refl
any_of_range f a (suc n) =
    ap (list_any f) (range_more a n) ∙ list_any-append f (range_with_len a n) ((a + n) ∷ []) ∙ rw (or-false, any_of_range f a n)

pub fold_of_range : {X : Type 0} (f : X → ℕ → X) (x : X) (a n : ℕ) → fold f x (range_with_len a n) ≡ upto (λ i y. f y (a + i)) n x
unfolding upto
fold_of_range f x a zero = refl
fold_of_range f x a (suc n) = rw (range_more a n, fold_push f x (range_with_len a n) (a + n), fold_of_range f x a n)

pub sum_of_range : (f : ℕ → ℕ) (a n : ℕ) → sum_by f (range_with_len a n) ≡ sum n (λ i. f (a + i))
unfolding sum
sum_of_range f a zero = refl
sum_of_range f a (suc n) = rw (range_more a n, sum_by_push f (range_with_len a n) (a + n), sum_of_range f a n)

pub count_of_range : (f : ℕ → Bool) (a n : ℕ) → count_by f (range_with_len a n) ≡ count n (λ i. f (a + i))
unfolding count
count_of_range f a zero = refl
count_of_range f a (suc n) =
    ap (count_by f) (range_more a n) ∙ sum_by_push (λ x. cond (f x) 1 0) (range_with_len a n) (a + n)
    ∙ ap (λ (k : ℕ). k + cond (f (a + n)) 1 0) (count_of_range f a n) ∙ one (f (a + n)) (count n (λ i. f (a + i)))
  where
    one : (b : Bool) (k : ℕ) → k + cond b 1 0 ≡ cond b (suc k) k
    one true k = omega arith
    one false k = omega arith

-- the first that passes
pub find_of_range : (f : ℕ → Bool) (a n : ℕ)
    → find f (range_with_len a n) ≡ cond (any n (λ i. f (a + i))) (Some (a + least n (λ i. f (a + i)))) None
unfolding any least
find_of_range f a zero = refl
find_of_range f a (suc n) =
    ap (find f) (range_more a n) ∙ find-append f (range_with_len a n) ((a + n) ∷ []) ∙ rw (find_of_range f a n) (pick (any n (λ i. f (a + i))) (f (a + n)))
  where
    pick : (t b : Bool) → option_or (cond t (Some (a + least n (λ i. f (a + i)))) None) (cond b (Some (a + n)) None)
        ≡ cond (t || b) (Some (a + cond t (least n (λ i. f (a + i))) (cond b n (suc n)))) None
    pick true b = refl
    pick false true = refl
    pick false false = refl

-- ---- `(a..b).any(|i| ..)`, and from 0 on
module _ {F : Type 0} {g : Mut F (ℕ × Unit {0}) Bool} {b : ℕ} {u : Range ℕ} {f : F} {r : Bool} where
  pub any_from : {a : ℕ} (test : ℕ → Bool)
      → (xs : List ℕ) × (o : Option ℕ) × (j : F) × YieldsThen nat_range_steps (record { start = a; end = b }) xs o u × FoldsTo (λ p x q. Called g p (x, tt) false q) f xs j × MatchOption o (r ≡ false) (λ x. (r ≡ true) × ((h : F) × Called g j (x, tt) true h))
      → ((x : ℕ) (b : Bool) (q : F) → Called g f (x, tt) b q → (q ≡ f) × (b ≡ test x)) → r ≡ any (b - a) (λ i. test (a + i))
  any_from {a} test ran call = any_from_yields_List test u f r ran (YieldsList-from_range a b (b - a) refl refl) call ∙ any_of_range test a (b - a)

  pub any_below : {test : ℕ → Bool}
      → (xs : List ℕ) × (o : Option ℕ) × (j : F) × YieldsThen nat_range_steps (record { start = 0; end = b }) xs o u × FoldsTo (λ p x q. Called g p (x, tt) false q) f xs j × MatchOption o (r ≡ false) (λ x. (r ≡ true) × ((h : F) × Called g j (x, tt) true h))
      → ((x : ℕ) (b : Bool) (q : F) → Called g f (x, tt) b q → (q ≡ f) × (b ≡ test x)) → r ≡ any b test
  any_below {test} ran call = simp (sub-zero, zero-add) at (any_from {a = 0} test ran call)

-- ---- `(a..b).find(|i| ..)`
module _ {F : Type 0} {g : Mut F (Bor ℕ × Unit {0}) Bool} {b : ℕ} {f : F} {r : Option ℕ} (u : Range ℕ) where
  pub find_from : {a : ℕ} (test : ℕ → Bool)
      → (xs : List ℕ) × (j : F) × YieldsThen nat_range_steps (record { start = a; end = b }) xs r u × FoldsTo (λ p x q. CalledAt g p x false q) f xs j × MatchOption r ⊤ (λ x. (h : F) × CalledAt g j x true h)
      → ((x : ℕ) (b : Bool) (q : F) → CalledAt g f x b q → (q ≡ f) × (b ≡ test x))
      → r ≡ cond (any (b - a) (λ i. test (a + i))) (Some (a + least (b - a) (λ i. test (a + i)))) None
  find_from {a} test ran call = same r ∙ find_from_yields_List test u f r ran (YieldsList-from_range a b (b - a) refl refl) call ∙ find_of_range test a (b - a)
    where
      same : (o : Option ℕ) → o ≡ option_map (λ x. x) o
      same None = refl
      same (Some x) = refl

  pub find_below : {test : ℕ → Bool}
      → (xs : List ℕ) × (j : F) × YieldsThen nat_range_steps (record { start = 0; end = b }) xs r u × FoldsTo (λ p x q. CalledAt g p x false q) f xs j × MatchOption r ⊤ (λ x. (h : F) × CalledAt g j x true h)
      → ((x : ℕ) (b : Bool) (q : F) → CalledAt g f x b q → (q ≡ f) × (b ≡ test x)) → r ≡ cond (any b test) (Some (least b test)) None
  find_below {test} ran call = simp (sub-zero, zero-add) at (find_from {a = 0} test ran call)

-- ---- `(0..n).filter(|i| ..).count()`
pub count_below : {F : Type 0} {g : Mut F (Bor ℕ × Unit {0}) Bool} {n r : ℕ} {s : Filter (Range ℕ) F} {f : F} {test : ℕ → Bool}
    → filter_source s ≡ record { start = 0; end = n } → filter_callee s ≡ f → (xs : List ℕ) × Drains (filter_steps nat_range_steps g) s xs × (r ≡ length xs)
    → ((x : ℕ) (b : Bool) (q : F) → CalledAt g f x b q → (q ≡ f) × (b ≡ test x)) → r ≡ count n test
count_below {g = g} {n = n} {r = r} {s = s} {test = test} source closure ran call =
    count_from_yields_List s r ran (YieldsList-from_filter g test (YieldsList-from_range 0 n n source (sub-zero n)) closure call)
    ∙ length-filter test (range_with_len 0 n) ∙ simp zero-add at (count_of_range test 0 n)

-- ---- `(0..n).map(|i| ..).sum()`, and that it fits
module _ {F : Type 0} {g : Mut F (ℕ × Unit {0}) ℕ} {n : ℕ} {s : Map (Range ℕ) F} {f : F} {h : ℕ → ℕ} where
  pub sum_below : {r : ℕ} → map_source s ≡ record { start = 0; end = n } → map_callee s ≡ f
      → (xs : List ℕ) × (⊤ → Drains (maps nat_range_steps g) s xs) × (r ≡ fold (λ a x. a + x) 0 xs)
      → ((x r : ℕ) (q : F) → Called g f (x, tt) r q → (q ≡ f) × (r ≡ h x)) → r ≡ sum n h
  sum_below {r} source closure ran call =
      sum_by_from_yields_List h (range_with_len 0 n) s r ran (YieldsList-from_map g h (YieldsList-from_range 0 n n source (sub-zero n)) closure call)
      ∙ simp zero-add at (sum_of_range h 0 n)

  pub sum_fits : {top : ℕ} → map_source s ≡ record { start = 0; end = n } → map_callee s ≡ f
      → ((x r : ℕ) (q : F) → Called g f (x, tt) r q → (q ≡ f) × (r ≡ h x))
      → sum n h < top → EachRunFrom (maps nat_range_steps g) s (λ p. fold (λ a x. a + x) 0 p.items < top)
  sum_fits {top} source closure call low =
      let e : sum_by h (range_with_len 0 n) ≡ sum n h = simp zero-add at (sum_of_range h 0 n) in
      fits_by_from_yields_list h (range_with_len 0 n) s top (YieldsList-from_map g h (YieldsList-from_range 0 n n source (sub-zero n)) closure call) (omega arith)

-- ---- `(0..n).fold(start, |x, i| ..)`
pub fold_below : {X F : Type 0} {g : Mut F (X × (ℕ × Unit {0})) X} {n : ℕ} {f : F} {start r : X} {run : ℕ → X → X}
    → (xs : List ℕ) × (q : F) × Drains nat_range_steps (record { start = 0; end = n }) xs × FoldsTo {P = F × X} (λ a x b. Called g a.0 (a.1, (x, tt)) b.1 b.0) (f, start) xs (q, r)
    → ((x : X) (i : ℕ) (y : X) (q : F) → Called g f (x, (i, tt)) y q → (q ≡ f) × (y ≡ run i x)) → r ≡ upto run n start
fold_below {g = g} {n = n} {start = start} {r = r} {run = run} ran call =
    fold_from_yields_List g (λ x i. run i x) start r ran (YieldsList-from_range 0 n n refl (sub-zero n)) call
    ∙ simp zero-add at (fold_of_range (λ x i. run i x) start 0 n)

-- ---- a list by its places
module _ {A : Type 0} (xs : List A) (d : A) where
  spread : xs ≡ map (λ i. get_or xs i d) (range_with_len 0 (length xs))
  spread = fill_by_all (λ i. get_or xs i d) xs (length xs) d refl (λ k h. refl)

  pub sum_of_list : (f : A → ℕ) → sum_by f xs ≡ sum (length xs) (λ i. f (get_or xs i d))
  sum_of_list f =
      ap (sum_by f) spread ∙ fold-map (λ a x. a + f x) (λ i. get_or xs i d) 0 (range_with_len 0 (length xs))
      ∙ simp zero-add at (sum_of_range (λ i. f (get_or xs i d)) 0 (length xs))

  pub count_of_list : (p : A → Bool) → count_by p xs ≡ count (length xs) (λ i. p (get_or xs i d))
  count_of_list p =
      ap (count_by p) spread ∙ fold-map (λ a x. a + cond (p x) 1 0) (λ i. get_or xs i d) 0 (range_with_len 0 (length xs))
      ∙ simp zero-add at (count_of_range (λ i. p (get_or xs i d)) 0 (length xs))

pub any_least : (f : ℕ → Bool) (n : ℕ) → any n f ≡ ltb (least n f) n
any_least f n = pick (any n f) refl
  where
    pick : (t : Bool) → any n f ≡ t → t ≡ ltb (least n f) n
    pick true e =
        let (i, l, p) = any_found f n e in
        sym (lt-ltb (least n f) n (elim (dec_lt (least n f) n) [ yes h ↦ h | no h ↦ absurd (false≢true (sym (least_first f n i (omega arith)) ∙ p)) ]))
    pick false e = sym (le-ltb (least n f) n (elim (dec_lt (least n f) n) [ yes h ↦ absurd (false≢true (sym (any_none f n e (least n f) h) ∙ least_passes f n h)) | no h ↦ omega arith ]))

-- ---- `s.iter()` and then `filter` and `count`, `map` and `sum`
pub count_in : {A F : Type 0} {g : Mut F (Bor (Bor A) × Unit {0}) Bool} {r : ℕ} {s : Filter (Iter A) F} {f : F} (p : A → Bool) (xs : List A) (d : A)
    → iter_rest (filter_source s) ≡ xs → filter_callee s ≡ f → (xs : List (Bor A)) × Drains (filter_steps fronts g) s xs × (r ≡ length xs)
    → ((x : Bor A) (b : Bool) (q : F) → CalledAt g f x b q → (q ≡ f) × (b ≡ p x.now)) → r ≡ count (length xs) (λ i. p (get_or xs i d))
count_in {g = g} {r = r} {s = s} p xs d source closure ran call =
    count_from_yields_List s r ran (YieldsList-from_filter g p (YieldsList-from_slice xs source) closure call) ∙ length-filter p xs ∙ count_of_list xs d p

module _ {A F : Type 0} {g : Mut F (Bor A × Unit {0}) ℕ} {s : Map (Iter A) F} {f : F} (h : A → ℕ) (xs : List A) (d : A) where
  pub sum_in : {r : ℕ} → iter_rest (map_source s) ≡ xs → map_callee s ≡ f → (xs : List ℕ) × (⊤ → Drains (maps fronts g) s xs) × (r ≡ fold (λ a x. a + x) 0 xs)
      → ((x : Bor A) (r : ℕ) (q : F) → Called g f (x, tt) r q → (q ≡ f) × (r ≡ h x.now)) → r ≡ sum (length xs) (λ i. h (get_or xs i d))
  sum_in {r} source closure ran call =
      sum_by_from_yields_List h xs s r ran (YieldsList-from_map g h (YieldsList-from_slice xs source) closure call) ∙ sum_of_list xs d h

  pub sum_in_fits : {top : ℕ} → iter_rest (map_source s) ≡ xs → map_callee s ≡ f
      → ((x : Bor A) (r : ℕ) (q : F) → Called g f (x, tt) r q → (q ≡ f) × (r ≡ h x.now))
      → sum (length xs) (λ i. h (get_or xs i d)) < top → EachRunFrom (maps fronts g) s (λ p. fold (λ a x. a + x) 0 p.items < top)
  sum_in_fits {top} source closure call low =
      fits_by_from_yields_list h xs s top (YieldsList-from_map g h (YieldsList-from_slice xs source) closure call) (omega (arith, sum_of_list xs d h))
