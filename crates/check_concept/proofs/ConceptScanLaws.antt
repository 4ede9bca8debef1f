-- What the check of a concept keeps while it scans the tokens is what refusals 4 to 6 ask, and what is named: the sorts of the
-- pile's items as bits, the count of steps, and the sets.
use Prim.Native.Nat.{ℕ, zero, suc, ◌+◌, ◌*◌, ◌/◌, ◌%◌, ◌^◌, ◌≤◌, ◌<◌}
use mathlib.Core.Bool.{Bool, true, false, cond, not, ◌||◌}
use mathlib.Core.List.{List, [], ◌∷◌}
use mathlib.Core.Option.{none, some}
use mathlib.Core.Path.{◌≡◌, refl, ap, sym, ◌∙◌}
use native.Mathlib.Nat.{pow-suc, lt_of_lt_of_le}
use lib.Pow.{pow_mono}
use native.Mathlib.Numerals.{add-one, sub-one}
use native.Mathlib.Omega.{arith}
use borrow.Author.Tests.{lt-ltb, le-ltb, eq-eqb, ne_eqb}
use lib.Dec.{eqb}
use lib.ListN.{length, get_or}
use Rattle.records.specs.declared.token.Token.{Token}
use Rattle.records.specs.declared.token.Token.TheVariants.{Class, Everything, Constant, Both, Empty, Forward, Backward, Reached, Common, Mark}
use Rattle.check_concept.specs.declared.sorts.Sorts.{Sorts}
use Rattle.check_concept.specs.declared.scan.Scan.{Scan}
use Rattle.records.specs.Concept.{class, everything, constant, mark, empty}
use Rattle.records.specs.ConceptRecord.{Item, Pile, after, pile_after, token_of, token_at}
use Rattle.records.specs.declared.schema.Signature.{Signature}
use Rattle.std.specs.Prelude.{Option, Some, None}
use Rattle.records.specs.Finite.{any, count, set_of}
use Rattle.records.specs.ConceptRefusal.{is_concept, suits, faulty_token, step_at, steps, refusal_3, refusal_4, refusal_5, refusal_6, concept_answer}
use Rattle.records.specs.Layout.{concept_layout, entries, left_at, right_at, size_at, max_classes, max_attributes}
use Rattle.records.specs.Shape.{outside}
use Rattle.records.specs.Named.{has_class, has_attribute, class_named, attribute_named, named_in}
use Rattle.records.proofs.General.FiniteLaws.{count_turn, count_le}
use Rattle.records.proofs.General.SetLaws.{set_none, set_gathered, set_ones}
use Rattle.check_concept.specs.Scan.{put_sort, join_sorts, reach_sort, push_sort, push_pile, HasRoom, is_concept_pile, read_token, named_by, scan_answer}

-- The pile's sorts.

abbrev sort_bit : Item → ℕ
sort_bit (Item.concept C) = 0
sort_bit (Item.path p) = 1

-- the sorts as bits, the top lowest
abbrev bits_of : List Item → ℕ
bits_of [] = 0
bits_of (x ∷ s) = 2 * bits_of s + sort_bit x

abbrev sorts_in : List Item → Sorts
sorts_in s = record { bits = bits_of s; height = length s }

abbrev sorts_of : Pile → Option Sorts
sorts_of none = None
sorts_of (some s) = Some (sorts_in s)

put_law : (s : List Item) (x : Item) → Some (sorts_in (x ∷ s)) ≡ Some (put_sort (sorts_in s) (sort_bit x))
put_law s x = rw add-one

join_few : (σ : Sorts) (want b : ℕ) → σ.height < 2 → join_sorts σ want b ≡ None
join_few σ want b h = rw (lt-ltb _ 2 h)

join_two : (x y : Item) (s : List Item) (want b : ℕ) → join_sorts (sorts_in (x ∷ y ∷ s)) want b ≡ cond (eqb (2 * sort_bit y + sort_bit x) want) (Some (record { bits = 2 * bits_of s + b; height = suc (length s) })) None
join_two x y s want b = rw (le-ltb (suc (suc (length s))) 2 (omega arith), low x y, high x y, sub-one) (pick (eqb (2 * sort_bit y + sort_bit x) want) _ _)
  where
    low : (x y : Item) → (2 * (2 * bits_of s + sort_bit y) + sort_bit x) % 4 ≡ 2 * sort_bit y + sort_bit x
    low (Item.concept C) (Item.concept D) = omega arith
    low (Item.concept C) (Item.path q) = omega arith
    low (Item.path p) (Item.concept D) = omega arith
    low (Item.path p) (Item.path q) = omega arith

    high : (x y : Item) → (2 * (2 * bits_of s + sort_bit y) + sort_bit x) / 4 ≡ bits_of s
    high (Item.concept C) (Item.concept D) = omega arith
    high (Item.concept C) (Item.path q) = omega arith
    high (Item.path p) (Item.concept D) = omega arith
    high (Item.path p) (Item.path q) = omega arith

    pick : (t : Bool) (σ τ : Option Sorts) → cond (not t) τ σ ≡ cond t σ τ
    pick true σ τ = refl
    pick false σ τ = refl

reach_one : (x : Item) (s : List Item) → reach_sort (sorts_in (x ∷ s)) ≡ cond (eqb (sort_bit x) 1) (Some (record { bits = 2 * bits_of s; height = suc (length s) })) None
reach_one (Item.concept C) s = rw (le-ltb (suc (length s)) 1 (omega arith), ne_eqb ((2 * bits_of s + 0) % 2) 1 (λ e. omega arith))
reach_one (Item.path p) s =
    rw (le-ltb (suc (length s)) 1 (omega arith), eq-eqb ((2 * bits_of s + 1) % 2) 1 (omega arith))
    (ap (λ (b : ℕ). Some (record { bits = b; height = suc (length s) })) (omega arith))

-- a token's effect on the sorts alone
after_sorts : (t : Token) (p : Pile) → sorts_of (after t p) ≡ push_pile t (sorts_of p)
after_sorts t none = refl
after_sorts (Class A) (some s) = put_law s (Item.concept (class A))
after_sorts Everything (some s) = put_law s (Item.concept everything)
after_sorts (Constant a) (some s) = put_law s (Item.concept (constant a))
after_sorts Both (some []) = sym (join_few (sorts_in []) 0 0 (omega arith))
after_sorts Both (some (Item.concept C ∷ [])) = sym (join_few (sorts_in (Item.concept C ∷ [])) 0 0 (omega arith))
after_sorts Both (some (Item.path p ∷ [])) = sym (join_few (sorts_in (Item.path p ∷ [])) 0 0 (omega arith))
after_sorts Both (some (Item.concept D ∷ Item.concept C ∷ s)) = sym (join_two (Item.concept D) (Item.concept C) s 0 0)
after_sorts Both (some (Item.concept D ∷ Item.path p ∷ s)) = sym (join_two (Item.concept D) (Item.path p) s 0 0)
after_sorts Both (some (Item.path q ∷ Item.concept C ∷ s)) = sym (join_two (Item.path q) (Item.concept C) s 0 0)
after_sorts Both (some (Item.path q ∷ Item.path p ∷ s)) = sym (join_two (Item.path q) (Item.path p) s 0 0)
after_sorts Empty (some s) = put_law s (Item.path empty)
after_sorts (Forward P) (some []) = sym (join_few (sorts_in []) 2 1 (omega arith))
after_sorts (Forward P) (some (Item.concept C ∷ [])) = sym (join_few (sorts_in (Item.concept C ∷ [])) 2 1 (omega arith))
after_sorts (Forward P) (some (Item.path p ∷ [])) = sym (join_few (sorts_in (Item.path p ∷ [])) 2 1 (omega arith))
after_sorts (Forward P) (some (Item.concept D ∷ Item.concept C ∷ s)) = sym (join_two (Item.concept D) (Item.concept C) s 2 1)
after_sorts (Forward P) (some (Item.concept D ∷ Item.path p ∷ s)) = sym (join_two (Item.concept D) (Item.path p) s 2 1)
after_sorts (Forward P) (some (Item.path q ∷ Item.concept C ∷ s)) = sym (join_two (Item.path q) (Item.concept C) s 2 1)
after_sorts (Forward P) (some (Item.path q ∷ Item.path p ∷ s)) = sym (join_two (Item.path q) (Item.path p) s 2 1)
after_sorts (Backward P) (some []) = sym (join_few (sorts_in []) 2 1 (omega arith))
after_sorts (Backward P) (some (Item.concept C ∷ [])) = sym (join_few (sorts_in (Item.concept C ∷ [])) 2 1 (omega arith))
after_sorts (Backward P) (some (Item.path p ∷ [])) = sym (join_few (sorts_in (Item.path p ∷ [])) 2 1 (omega arith))
after_sorts (Backward P) (some (Item.concept D ∷ Item.concept C ∷ s)) = sym (join_two (Item.concept D) (Item.concept C) s 2 1)
after_sorts (Backward P) (some (Item.concept D ∷ Item.path p ∷ s)) = sym (join_two (Item.concept D) (Item.path p) s 2 1)
after_sorts (Backward P) (some (Item.path q ∷ Item.concept C ∷ s)) = sym (join_two (Item.path q) (Item.concept C) s 2 1)
after_sorts (Backward P) (some (Item.path q ∷ Item.path p ∷ s)) = sym (join_two (Item.path q) (Item.path p) s 2 1)
after_sorts Common (some []) = sym (join_few (sorts_in []) 3 0 (omega arith))
after_sorts Common (some (Item.concept C ∷ [])) = sym (join_few (sorts_in (Item.concept C ∷ [])) 3 0 (omega arith))
after_sorts Common (some (Item.path p ∷ [])) = sym (join_few (sorts_in (Item.path p ∷ [])) 3 0 (omega arith))
after_sorts Common (some (Item.concept D ∷ Item.concept C ∷ s)) = sym (join_two (Item.concept D) (Item.concept C) s 3 0)
after_sorts Common (some (Item.concept D ∷ Item.path p ∷ s)) = sym (join_two (Item.concept D) (Item.path p) s 3 0)
after_sorts Common (some (Item.path q ∷ Item.concept C ∷ s)) = sym (join_two (Item.path q) (Item.concept C) s 3 0)
after_sorts Common (some (Item.path q ∷ Item.path p ∷ s)) = sym (join_two (Item.path q) (Item.path p) s 3 0)
after_sorts Reached (some []) = refl
after_sorts Reached (some (Item.concept C ∷ s)) = sym (reach_one (Item.concept C) s)
after_sorts Reached (some (Item.path p ∷ s)) = ap (λ (b : ℕ). Some (record { bits = b; height = suc (length s) })) (omega arith) ∙ sym (reach_one (Item.path p) s)
after_sorts (Mark k) (some s) = put_law s (Item.concept (mark k))

concept_sorts : (p : Pile) → is_concept_pile (sorts_of p) ≡ is_concept p
concept_sorts none = refl
concept_sorts (some []) = refl
concept_sorts (some (Item.concept C ∷ [])) = refl
concept_sorts (some (Item.concept C ∷ x ∷ s)) = rw (ne_eqb (suc (suc (length s))) 1 (λ e. omega arith))
concept_sorts (some (Item.path p ∷ [])) = refl
concept_sorts (some (Item.path p ∷ x ∷ s)) = rw (ne_eqb (suc (suc (length s))) 1 (λ e. omega arith))

-- Bounds: a token adds one item at most, and the bits are as many as the items.

-- so high at most, where there is a pile
abbrev UpTo : ℕ → Option Sorts → Type 0
UpTo n None = Unit {0}
UpTo n (Some σ) = σ.height ≤ n

cond_height : (t : Bool) (σ : Sorts) (n : ℕ) → σ.height ≤ n → UpTo n (cond t None (Some σ))
cond_height true σ n p = tt
cond_height false σ n p = p

push_height : (t : Token) (σ : Sorts) (n : ℕ) → σ.height ≤ n → UpTo (suc n) (push_sort t σ)
push_height (Class A) σ n h = omega arith
push_height Everything σ n h = omega arith
push_height (Constant a) σ n h = omega arith
push_height Both σ n h = cond_height _ _ (suc n) (omega arith)
push_height Empty σ n h = omega arith
push_height (Forward P) σ n h = cond_height _ _ (suc n) (omega arith)
push_height (Backward P) σ n h = cond_height _ _ (suc n) (omega arith)
push_height Reached σ n h = cond_height _ _ (suc n) (omega arith)
push_height Common σ n h = cond_height _ _ (suc n) (omega arith)
push_height (Mark k) σ n h = omega arith

pushed_height : (t : Token) (p : Option Sorts) (n : ℕ) → UpTo n p → UpTo (suc n) (push_pile t p)
pushed_height t None n h = tt
pushed_height t (Some σ) n h = push_height t σ n h

pile_height : (w : List ℕ) (e : ℕ) → UpTo e (sorts_of (pile_after w e))
unfolding pile_after
pile_height w zero = omega arith
pile_height w (suc e) =
    rw (after_sorts (token_at w e) (pile_after w e))
    (pushed_height (token_at w e) (sorts_of (pile_after w e)) e (pile_height w e))

bit_small : (x : Item) → sort_bit x < 2
bit_small (Item.concept C) = omega arith
bit_small (Item.path p) = omega arith

bits_small : (s : List Item) → bits_of s < 2 ^ length s
bits_small [] = omega arith
bits_small (x ∷ s) = rw pow-suc (omega (arith, bits_small s, bit_small x))

pile_room : (p : Pile) (n : ℕ) → n < 64 → UpTo n (sorts_of p) → HasRoom (sorts_of p)
pile_room none n l h = tt
pile_room (some s) n l h = (lt_of_lt_of_le (bits_small s) (pow_mono {j = 63} (omega arith)), omega arith)

-- A token by its two words, and whether it is faulty.
module _ (w : List ℕ) (i : ℕ) {sort argument : ℕ} (l : sort ≡ left_at concept_layout w i) (r : argument ≡ right_at concept_layout w i) where
  pub token_of_lem : token_of sort argument ≡ token_at w i
  unfolding token_at
  token_of_lem = rw (l, r)

  pub fault_of : (s : Signature) → (outside 1 10 sort || not (suits s (token_of sort argument) argument)) ≡ faulty_token s w i
  unfolding faulty_token token_at
  fault_of s = rw (l, r)

-- What the check of a concept has kept after i tokens.
unfoldable pub scan_after : List ℕ → ℕ → Scan
scan_after w zero = record { pile = sorts_of (some []); steps = 0; classes = 0; attributes = 0 }
scan_after w (suc i) = read_token (token_at w i) (scan_after w i)

module _ (w : List ℕ) where
  scan_pile : (i : ℕ) → (scan_after w i).pile ≡ sorts_of (pile_after w i)
  unfolding scan_after pile_after
  scan_pile zero = refl
  scan_pile (suc i) = ap (push_pile (token_at w i)) (scan_pile i) ∙ sym (after_sorts (token_at w i) (pile_after w i))

  scan_steps : (i : ℕ) → (scan_after w i).steps ≡ count i (step_at w)
  unfolding scan_after count
  scan_steps zero = refl
  scan_steps (suc i) = count_turn (step_at w) i (scan_after w i).steps (step_at w i) (scan_steps i) refl ∙ ap (λ (n : ℕ). count n (step_at w)) (add-one i)

  scan_classes : (i : ℕ) → (scan_after w i).classes ≡ set_of max_classes (λ A. any i λ j. has_class A (token_at w j))
  unfolding scan_after any
  scan_classes zero = sym (set_none (λ A. false) max_classes (λ A l. refl))
  scan_classes (suc i) = set_gathered (λ A j. has_class A (token_at w j)) max_classes i (scan_classes i)

  scan_attributes : (i : ℕ) → (scan_after w i).attributes ≡ set_of max_attributes (λ P. any i λ j. has_attribute P (token_at w j))
  unfolding scan_after any
  scan_attributes zero = sym (set_none (λ P. false) max_attributes (λ P l. refl))
  scan_attributes (suc i) = set_gathered (λ P j. has_attribute P (token_at w j)) max_attributes i (scan_attributes i)

  -- there is room for one token more
  pub scan_room : (i : ℕ) → i < 64 → HasRoom (scan_after w i).pile × ((scan_after w i).steps < 64)
  scan_room i l = rw (scan_pile i, scan_steps i) (pile_room (pile_after w i) i l (pile_height w i), omega (arith, count_le (step_at w) i))

  scan_named : named_by (scan_after w (entries concept_layout w)) ≡ named_in w
  unfolding named_in class_named attribute_named
  scan_named = rw (scan_classes (entries concept_layout w), scan_attributes (entries concept_layout w), set_ones (class_named w) max_classes)

  -- what all tokens come to
  pub scan_answer_lem : (limit : ℕ) (s : Signature) {i k : ℕ} {σ : Scan} → i ≡ entries concept_layout w → k ≡ get_or w 1 0 → σ ≡ scan_after w i
      → refusal_3 w ≡ false → any i (faulty_token s w) ≡ false → scan_answer limit k σ ≡ concept_answer limit s w
  unfolding concept_answer refusal_4 refusal_5 refusal_6 steps size_at
  scan_answer_lem limit s e q z shape tokens =
      rw (z, q, e, shape, rw e at tokens, scan_named, scan_pile (entries concept_layout w), scan_steps (entries concept_layout w), concept_sorts (pile_after w (entries concept_layout w)))
