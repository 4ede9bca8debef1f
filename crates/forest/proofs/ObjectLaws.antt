-- The forest that the array of objects holds: what its words say of it, and what one word more makes of it.
use Prim.Native.Nat.{ℕ, zero, suc, ◌+◌, ◌-◌, ◌/◌, ◌%◌, ◌≤◌, ◌<◌}
use native.Mathlib.Omega.{arith}
use native.Mathlib.Decide.{dec_lt}
use mathlib.Core.Bool.{Bool, cond}
use mathlib.Core.List.{List, [], ◌∷◌, ◌++◌, map, append-nil, append_assoc}
use mathlib.Core.Path.{◌≡◌, refl, sym, ap, ap₂, ◌∙◌}
use lib.Dec.{eqb}
use lib.ListN.{length, get_or, set, take, drop, length-map, length-drop}
use lib.Seq.{take-suc, take-suc-set, length-take-le, drop-append-le, drop-length, get_or-take, get_or-drop}
use borrow.Author.Tests.{ne_eqb}
use Rattle.records.specs.Layout.{max_attributes, object_part}
use Rattle.records.specs.Schema.{Schema}
use Rattle.chase.specs.ClassSet.{full}
use Rattle.chase.specs.Ground.{Ground}
use Rattle.chase.specs.Forest.{Forest, bare, grow, size, parent, classes_of, entries}
use Rattle.records.proofs.General.ListLaws.{get_d_map}
use Rattle.chase.proofs.ForestLaws.{ground_size}
use Rattle.chase.proofs.CandidateLaws.{ground_classes, full_beyond}
use Rattle.chase.proofs.ArrayLaws.{entries_length, classes_entry, parent_entry}
use Rattle.primary.specs.Words.{edge_of}
use Rattle.ground.specs.Objects.{link, link_part, object_word, classes_in, attribute_in, maker_in, grown_by, forest_in, ground_in, Laid}

-- the ground is what the first words say
pub ground_kept : (g : ℕ) (objects others edges : List ℕ) → take g objects ≡ take g others
    → ground_in g objects edges ≡ ground_in g others edges
ground_kept g objects others edges e =
    ap
    (λ (l : List ℕ). record {
      objects = g;
      sets = map classes_in l;
      edges = map edge_of edges;
      constants = λ a. 0;
      used = 0;
      marks = λ k. 0;
      start = 0;
    })
    e

-- a word more at the end
abbrev pub grow_by : Forest → ℕ → Forest
grow_by T w = grow T (maker_in w) (attribute_in w) (classes_in w)

grown_last : (T : Forest) (l : List ℕ) (w : ℕ) → grown_by T (l ++ (w ∷ [])) ≡ grow_by (grown_by T l) w
unfolding grown_by
grown_last T [] w = refl
grown_last T (v ∷ l) w = grown_last (grow_by T v) l w

module _ (g n : ℕ) (objects : List ℕ) where
  pub forest_none : g ≤ length objects → forest_in g g objects ≡ bare
  unfolding forest_in grown_by
  forest_none h =
      let q : length (take g objects) ≡ g = length-take-le g objects h in
      ap (grown_by bare) (sym (ap (λ (k : ℕ). drop k (take g objects)) q) ∙ drop-length (take g objects))

  -- the words after g, with one more
  last : (w : ℕ) → g ≤ n → n ≤ length objects → drop g (take n objects ++ (w ∷ [])) ≡ drop g (take n objects) ++ (w ∷ [])
  last w h k = drop-append-le g (take n objects) (w ∷ []) (omega (arith, length-take-le n objects k))

  pub forest_more : g ≤ n → n < length objects → forest_in g (suc n) objects ≡ grow_by (forest_in g n objects) (get_or objects n 0)
  unfolding forest_in
  forest_more h k =
      ap (λ (l : List ℕ). grown_by bare (drop g l)) (take-suc objects n 0 k) ∙ ap (grown_by bare) (last (get_or objects n 0) h (omega arith))
      ∙ grown_last bare (drop g (take n objects)) (get_or objects n 0)

  pub forest_stored : (w : ℕ) → g ≤ n → n < length objects → forest_in g (suc n) (set objects n w) ≡ grow_by (forest_in g n objects) w
  unfolding forest_in
  forest_stored w h k =
      ap (λ (l : List ℕ). grown_by bare (drop g l)) (take-suc-set objects n w k) ∙ ap (grown_by bare) (last w h (omega arith))
      ∙ grown_last bare (drop g (take n objects)) w

-- the entries of the forest are those that the words say
abbrev pub said : (ℕ → ℕ → ℕ → ℕ) → ℕ → ℕ
said f w = f (maker_in w) (attribute_in w) (classes_in w)

grown_entries : (f : ℕ → ℕ → ℕ → ℕ) (T : Forest) (l : List ℕ) → entries f (grown_by T l) ≡ entries f T ++ map (said f) l
unfolding entries grown_by
grown_entries f T [] = sym (append-nil (entries f T))
grown_entries f T (w ∷ l) = grown_entries f (grow_by T w) l ∙ append_assoc (entries f T) (said f w ∷ []) (map (said f) l)

pub forest_entries : (f : ℕ → ℕ → ℕ → ℕ) (g n : ℕ) (objects : List ℕ)
    → entries f (forest_in g n objects) ≡ map (said f) (drop g (take n objects))
unfolding forest_in entries
forest_entries f g n objects = grown_entries f bare (drop g (take n objects))

module _ (g n : ℕ) (objects : List ℕ) (laid : Laid g n objects) where
  words_length : length (drop g (take n objects)) ≡ n - g
  words_length = omega (arith, length-drop g (take n objects), length-take-le n objects (omega (arith, laid.fits, laid.room)))

  pub entry_at : (f : ℕ → ℕ → ℕ → ℕ) (d : ℕ) → g ≤ d → d < n
      → get_or (entries f (forest_in g n objects)) (d - g) 0 ≡ said f (get_or objects d 0)
  entry_at f d a b =
      let q : g + (d - g) ≡ d = omega arith in
      ap (λ (l : List ℕ). get_or l (d - g) 0) (forest_entries f g n objects)
      ∙ get_d_map (said f) (drop g (take n objects)) (d - g) (omega (arith, words_length))
      ∙ ap (said f)
      (get_or-drop g (take n objects) (d - g) 0 ∙ get_or-take n objects (g + (d - g)) 0 (omega arith) ∙ ap (λ (k : ℕ). get_or objects k 0) q)

  -- what the words say of any ground of g objects
  module _ (base edges : List ℕ) where
    pub size_laid : size (ground_in g base edges) (forest_in g n objects) ≡ n
    size_laid =
        omega (
          arith,
          entries_length (λ d P c. d) (ground_in g base edges) (forest_in g n objects),
          ap length (forest_entries (λ d P c. d) g n objects),
          length-map (drop g (take n objects)) (said (λ d P c. d)),
          words_length,
          laid.ground,
        )

    pub parent_made : (P e : ℕ) → g ≤ e → e < n
        → parent (ground_in g base edges) (forest_in g n objects) P e
        ≡ cond (eqb (attribute_in (get_or objects e 0)) P) (suc (maker_in (get_or objects e 0))) zero
    parent_made P e a b =
        parent_entry (ground_in g base edges) P (forest_in g n objects) e a (omega (arith, size_laid))
        ∙ ap₂ (λ (R m : ℕ). cond (eqb R P) (suc m) zero) (entry_at (λ d P c. P) e a b) (entry_at (λ d P c. d) e a b)

-- an object of the ground was not made, and has its own classes
pub parent_ground : (G : Ground) (T : Forest) (P e : ℕ) → e < G.objects → parent G T P e ≡ zero
unfolding parent
parent_ground G bare P e h = refl
parent_ground G (grow T m R c) P e h =
    ap (λ (b : Bool). cond b (cond (eqb R P) (suc m) zero) (parent G T P e)) (ne_eqb e (size G T) (omega (arith, ground_size G T)))
    ∙ parent_ground G T P e h

module _ (S : Schema) (g n : ℕ) (objects : List ℕ) (laid : Laid g n objects) (edges : List ℕ) where
  pub classes_laid : (d : ℕ) → d < n → classes_of S (ground_in g objects edges) (forest_in g n objects) d ≡ classes_in (get_or objects d 0)
  classes_laid d h =
      elim (dec_lt d g) [
        | yes y ↦
            ground_classes S (ground_in g objects edges) (forest_in g n objects) d y
            ∙ get_d_map classes_in (take g objects) d
            (omega (arith, length-take-le g objects (omega (arith, laid.fits, laid.room, laid.ground))))
            ∙ ap classes_in (get_or-take g objects d 0 y)
        | no k ↦
            classes_entry (ground_in g objects edges) S (forest_in g n objects) d (omega arith) (omega (arith, size_laid g n objects laid objects edges))
            ∙ entry_at g n objects laid (λ d P c. c) d (omega arith) h
      ]

  pub classes_closing : (d : ℕ) → n ≤ d → classes_of S (ground_in g objects edges) (forest_in g n objects) d ≡ full S.signature.classes
  classes_closing d h =
      full_beyond S (ground_in g objects edges) (forest_in g n objects) d (omega (arith, size_laid g n objects laid objects edges))

-- the word of a made object says of it what was put in
module _ (c P d : ℕ) (a : P < max_attributes) (b : d < object_part) where
  abbrev word : ℕ
  word = object_word c (link P d)

  pub word_classes : classes_in word ≡ c
  word_classes = omega arith

  word_link : word % link_part ≡ link P d
  word_link = omega arith

  word_attribute : attribute_in word ≡ P
  word_attribute = ap (λ (l : ℕ). l / object_part) word_link ∙ omega arith

  pub word_maker : maker_in word ≡ d
  word_maker = ap (λ (l : ℕ). l % object_part) word_link ∙ omega arith

  -- its store makes the object, and leaves the ground as it is
  pub forest_grown : (g n : ℕ) (objects : List ℕ) → g ≤ n → n < length objects
      → forest_in g (suc n) (set objects n word) ≡ grow (forest_in g n objects) d P c
  forest_grown g n objects h k =
      forest_stored g n objects word h k
      ∙ ap₂ (λ (m R : ℕ). grow (forest_in g n objects) m R (classes_in word)) word_maker word_attribute
      ∙ ap (grow (forest_in g n objects) d P) word_classes
