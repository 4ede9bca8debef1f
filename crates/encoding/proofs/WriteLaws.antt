-- What the lent words are after each part of the record has been written to the words from a place to the end.
use Prim.Native.Nat.{ℕ, zero, suc, ◌+◌, ◌-◌, ◌*◌, ◌≤◌, ◌<◌}
use native.Mathlib.Numerals.{add-one}
use native.Mathlib.Omega.{arith}
use mathlib.Core.List.{List, [], ◌∷◌, ◌++◌, map, append-nil, append_assoc}
use mathlib.Core.Path.{◌≡◌, refl, sym, ap, ◌∙◌}
use lib.ListN.{length, get_or, set, take, drop, length-map, length-drop, drop_of_length-le}
use lib.Seq.{take_at, take-length, drop_at, drop-drop, sets, length-sets, sets-eq}
use borrow.Author.Rules.{part_to_end}
use borrow.Rule.Slice.PartMut.{mid_of, put_mid}
use Rattle.records.specs.Layout.{state_layout, length_for}
use Rattle.records.specs.Encoding.{record_of, left_word, right_word, class_facts_in, state_sizes, state_record}
use Rattle.records.proofs.EncodingLaws.{state_words}

-- the words from place a to the end, lent and given back as ys
rest_back : (xs : List ℕ) (a : ℕ) (ys : List ℕ) → put_mid a (length xs - a) xs ys ≡ take a xs ++ ys
rest_back xs a ys =
    ap (λ (zs : List ℕ). take a xs ++ (ys ++ zs)) (drop_of_length-le (drop a xs) {i = length xs - a} (omega (arith, length-drop a xs)))
    ∙ ap (λ (zs : List ℕ). take a xs ++ zs) (append-nil ys)

-- the first i entries of a list, each changed, before what was there
module _ (f : ℕ → ℕ) where
  abbrev pub puts : List ℕ → List ℕ → ℕ → List ℕ
  puts l to i = map f (take i l) ++ drop i to

  puts_next : (l to : List ℕ) (i : ℕ) → i < length l → i < length to → set (puts l to i) i (f (get_or l i 0)) ≡ puts l to (suc i)
  puts_next [] to i h k = absurd (omega arith)
  puts_next (x ∷ l) [] i h k = absurd (omega arith)
  puts_next (x ∷ l) (y ∷ to) zero h k = refl
  puts_next (x ∷ l) (y ∷ to) (suc i) h k = ap (λ (m : List ℕ). f x ∷ m) (puts_next l to i (omega arith) (omega arith))

  pub puts_more : (l to now : List ℕ) (i : ℕ) → i < length l → i < length to → now ≡ puts l to i
      → set now i (f (get_or l i 0)) ≡ puts l to (i + 1)
  puts_more l to now i h k e = rw (add-one, e) (puts_next l to i h k)

  pub puts_all : (l to now : List ℕ) (i : ℕ) → i ≤ length l → length l ≤ i → now ≡ puts l to i → now ≡ map f l ++ drop (length l) to
  puts_all l to now i h k e =
      let q : i ≡ length l = omega arith in
      e ∙ ap (puts l to) q ∙ ap (λ (m : List ℕ). map f m ++ drop (length l) to) (take-length l)

-- the right words after the left ones
pub fill_all : (l to now part : List ℕ) → now ≡ map left_word l ++ drop (length l) to
    → part ≡ map right_word l ++ drop (length l) (mid_of (length l) (length now - length l) now)
    → put_mid (length l) (length now - length l) now part ≡ map left_word l ++ map right_word l ++ drop (2 * length l) to
fill_all l to now part p q =
    let n = length l in
    let front : take n now ≡ map left_word l
    = ap (take n) p ∙ take_at (map left_word l) (drop n to) n (length-map l left_word) in
    let back : mid_of n (length now - n) now ≡ drop n to
    = part_to_end now n ∙ ap (drop n) p ∙ drop_at (map left_word l) (drop n to) n (length-map l left_word) in
    let twice : n + n ≡ 2 * n = omega arith in
    let rest : drop n (drop n to) ≡ drop (2 * n) to = drop-drop n n to ∙ ap (λ (k : ℕ). drop k to) twice in
    rest_back now n part ∙ rw (front, q, back, rest) (sym (append_assoc (map left_word l) (map right_word l) (drop (2 * n) to)))

-- the sizes, in the first k words, and the words of the entries after them
record_back : {E : Type 0} (left right : E → ℕ) (sizes : List ℕ) (l : List E) (lent w part : List ℕ) (k : ℕ) → take k w ≡ sizes → drop k w ≡ drop k lent
    → part ≡ map left l ++ map right l ++ drop (2 * length l) (mid_of k (length w - k) w)
    → put_mid k (length w - k) w part ≡ record_of left right sizes l ++ drop (k + 2 * length l) lent
unfolding record_of
record_back left right sizes l lent w part k p q r =
    rest_back w k part ∙ rw (p, r, part_to_end w k, q, drop-drop (2 * length l) k lent) (simp append_assoc)

-- The state's sizes.
abbrev pub sized : List ℕ → ℕ → ℕ → ℕ → List ℕ
sized lent x y z = sets lent 0 (state_sizes x y z)

module _ (lent : List ℕ) (x y z : ℕ) where
  abbrev sizes : List ℕ
  sizes = state_sizes x y z

  abbrev w : List ℕ
  w = sized lent x y z

  pub sized_length : length w ≡ length lent
  sized_length = length-sets lent 0 sizes

  sized_front : length sizes ≤ length lent → take (length sizes) w ≡ sizes
  sized_front h = ap (take (length sizes)) (sets-eq sizes lent 0 h) ∙ take_at sizes (drop (length sizes) lent) (length sizes) refl

  sized_rest : length sizes ≤ length lent → drop (length sizes) w ≡ drop (length sizes) lent
  sized_rest h = ap (drop (length sizes)) (sets-eq sizes lent 0 h) ∙ drop_at sizes (drop (length sizes) lent) (length sizes) refl

  pub sized_room : (n : ℕ) → length_for state_layout n ≤ length lent → 2 * n ≤ length (mid_of (length sizes) (length w - length sizes) w)
  sized_room n h = rw (part_to_end w (length sizes)) (omega (arith, state_words n, length-drop (length sizes) w, sized_length))

  pub write_all : (n : ℕ) (l part : List ℕ) → length_for state_layout (length l) ≤ length lent → x ≡ n → y ≡ length l → z ≡ class_facts_in l
      → part ≡ map left_word l ++ map right_word l ++ drop (2 * length l) (mid_of (length sizes) (length w - length sizes) w)
      → put_mid (length sizes) (length w - length sizes) w part ≡ state_record n l ++ drop (length sizes + 2 * length l) lent
  unfolding state_record
  write_all n l part h p q r e =
      let room : length sizes ≤ length lent = omega (arith, state_words (length l)) in
      record_back left_word right_word (state_sizes n (length l) (class_facts_in l)) l lent w part (length sizes) (sized_front room ∙ rw (p, q, r)) (sized_rest room) e
