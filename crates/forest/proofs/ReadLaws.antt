-- What the code reads of the objects: a made value found by a search over the words, and the pairs of the query.
use Prim.Native.Nat.{ℕ, zero, suc, ◌+◌, ◌*◌, ◌-◌, ◌%◌, ◌^◌, ◌≤◌, ◌<◌}
use native.Mathlib.Omega.{arith}
use native.Mathlib.Nat.{one-mul}
use native.Mathlib.Numerals.{add-one}
use Rattle.std.specs.Prelude.{Option, Some, None, is_some}
use Rattle.forest.specs.Kept.{number}
use mathlib.Core.Bool.{Bool, true, false, true≢false, false≢true, So, cond, not, ◌&&◌, ◌||◌, and-false}
use mathlib.Core.List.{List, [], ◌∷◌}
use mathlib.Core.Path.{◌≡◌, refl, sym, ap, ap₂, ◌∙◌}
use lib.Dec.{eqb, ltb}
use lib.ListN.{get_or}
use lib.Pow.{pow_pos, shl_exact}
use borrow.Author.Tests.{eqb-true, eq-eqb, ne_eqb, lt-ltb}
use Rattle.records.specs.Layout.{max_classes, object_part}
use Rattle.records.specs.Schema.{Schema}
use Rattle.records.specs.SchemaRecord.{schema_of}
use Rattle.records.specs.SchemaRefusal.{AcceptedSchema}
use Rattle.records.specs.Helpers.Loops.{any_of}
use Rattle.chase.specs.ClassSet.{meets, full}
use Rattle.chase.specs.Axioms.{collect, needs_by, needs}
use Rattle.chase.specs.Forest.{Forest, kid, parent, asks, classes_of, lacks}
use Rattle.std.specs.List.{list_any}
use Rattle.records.proofs.General.LoopLaws.{any_map}
use Rattle.records.proofs.General.BoolLaws.{and_both, and_parts}
use Rattle.records.proofs.AcceptedLaws.{passes_1}
use Rattle.chase.proofs.AcceptanceLaws.{accepted-signature}
use Rattle.primary.specs.Words.{edge_of}
use Rattle.ground.specs.Objects.{link, link_part, classes_in, attribute_in, maker_in, forest_in, ground_in, Laid}
use Rattle.forest.proofs.ObjectLaws.{forest_none, forest_more, size_laid, parent_made, parent_ground, classes_laid}

-- a word whose link is that of the attribute and the maker
linked : (w P d : ℕ) → d < object_part → w % link_part ≡ link P d → So (eqb (maker_in w) d && eqb (attribute_in w) P)
linked w P d h q = and_both (eqb (maker_in w) d) (eqb (attribute_in w) P) (eq-eqb (maker_in w) d (omega arith)) (eq-eqb (attribute_in w) P (omega arith))

unlinked : (w P d : ℕ) → (w % link_part ≡ link P d → ⊥) → eqb (maker_in w) d && eqb (attribute_in w) P ≡ false
unlinked w P d n = go (eqb (maker_in w) d && eqb (attribute_in w) P) refl
  where
    go : (b : Bool) → eqb (maker_in w) d && eqb (attribute_in w) P ≡ b → b ≡ false
    go true q =
        let k = and_parts (eqb (maker_in w) d) (eqb (attribute_in w) P) q in
        absurd (n (omega (arith, eqb-true (maker_in w) d k.0, eqb-true (attribute_in w) P k.1)))
    go false q = refl

-- the value made of P at d is not among the objects from e to n
module _ (g : ℕ) (objects : List ℕ) (P d : ℕ) where
  abbrev kid_below : ℕ → List ℕ → ℕ
  kid_below e edges = kid (ground_in g objects edges) (forest_in g e objects) P d

  abbrev pub Below : ℕ → ℕ → Type 0
  Below e n = (edges : List ℕ) → kid_below e edges ≡ kid_below n edges

  module _ (n : ℕ) (laid : Laid g n objects) where
    pub below_first : (e : ℕ) → g ≤ e → e ≤ g → Below e n → (edges : List ℕ) → 0 ≡ kid_below n edges
    unfolding kid
    below_first e a b h edges =
        let q : e ≡ g = omega arith in
        sym (ap (λ (T : Forest). kid (ground_in g objects edges) T P d) (forest_none g g objects (omega (arith, laid.room, laid.ground, laid.fits))))
        ∙ ap (λ (k : ℕ). kid_below k edges) (sym q) ∙ h edges

    next : (e : ℕ) → g ≤ e → e < n → (edges : List ℕ)
        → kid_below (e + 1) edges
        ≡ cond (eqb (maker_in (get_or objects e 0)) d && eqb (attribute_in (get_or objects e 0)) P) (suc e) (kid_below e edges)
    unfolding kid
    next e h k edges =
        let w = get_or objects e 0 in
        let here : Laid g e objects = record { room = laid.room; ground = h; fits = omega (arith, laid.fits) } in
        rw add-one
        (ap (λ (T : Forest). kid (ground_in g objects edges) T P d) (forest_more g e objects h (omega (arith, laid.fits, laid.room)))
        ∙ ap (λ (s : ℕ). cond (eqb (maker_in w) d && eqb (attribute_in w) P) (suc s) (kid_below e edges)) (size_laid g e objects here objects edges))

    -- the object below e is the value, or it is passed
    module _ (e : ℕ) (h : g < e) (k : e ≤ n) (b : Below e n) where
      before : (edges : List ℕ) → kid_below (e - 1 + 1) edges ≡ kid_below n edges
      before edges = let q : e - 1 + 1 ≡ e = omega arith in ap (λ (i : ℕ). kid_below i edges) q ∙ b edges

      turn : (t : Bool) → eqb (maker_in (get_or objects (e - 1) 0)) d && eqb (attribute_in (get_or objects (e - 1) 0)) P ≡ t → (edges : List ℕ)
          → cond t (suc (e - 1)) (kid_below (e - 1) edges) ≡ kid_below n edges
      turn t q edges =
          sym (next (e - 1) (omega arith) (omega arith) edges ∙ ap (λ (t : Bool). cond t (suc (e - 1)) (kid_below (e - 1) edges)) q) ∙ before edges

      pub below_met : d < object_part → get_or objects (e - 1) 0 % link_part ≡ link P d → (edges : List ℕ) → e - 1 + 1 ≡ kid_below n edges
      below_met small q edges = add-one (e - 1) ∙ turn true (linked (get_or objects (e - 1) 0) P d small q) edges

      pub below_more : (get_or objects (e - 1) 0 % link_part ≡ link P d → ⊥) → Below (e - 1) n
      below_more q edges = turn false (unlinked (get_or objects (e - 1) 0) P d q) edges

-- the library's search of a list is the one of the model
pub any_listed : {A : Type 0} (test : A → Bool) (l : List A) → list_any test l ≡ any_of test l
unfolding any_of
any_listed test [] = refl
any_listed test (a ∷ l) = ap (λ (b : Bool). test a || b) (any_listed test l)

-- the query's pairs
module _ (l : List ℕ) (P d : ℕ) where
  -- the test of one edge
  abbrev pub from : ℕ → Bool
  from w = eqb (edge_of w).attribute P && eqb (edge_of w).origin d

  pub asks_words : (g : ℕ) (objects : List ℕ) → list_any from l ≡ asks (ground_in g objects l) P d
  unfolding asks
  asks_words g objects = any_listed from l ∙ sym (any_map (λ e. eqb e.attribute P && eqb e.origin d) edge_of l)

-- the mask of all classes, shifted in a word of 32 bits
module _ (w : List ℕ) (ok : AcceptedSchema w) (k : ℕ) (q : k ≡ (schema_of w).signature.classes) where
  pub few_classes : k ≤ max_classes
  unfolding schema_of
  few_classes = omega (arith, accepted-signature w (passes_1 w ok))

  shifted : (1 * 2 ^ k) % 2 ^ 32 ≡ 2 ^ k
  shifted = shl_exact 1 k 32 (omega arith) (omega (arith, few_classes)) ∙ one-mul (2 ^ k)

  pub full_some : 1 ≤ (1 * 2 ^ k) % 2 ^ 32
  full_some = omega (arith, shifted, pow_pos k)

  pub full_mask : (1 * 2 ^ k) % 2 ^ 32 - 1 ≡ full (schema_of w).signature.classes
  unfolding full
  full_mask = ap (λ (m : ℕ). m - 1) shifted ∙ ap (λ (j : ℕ). 2 ^ j - 1) q

-- the maker of an object
module _ (g n : ℕ) (objects : List ℕ) (laid : Laid g n objects) (P e : ℕ) (h : e < n) (edges : List ℕ) where
  pub parent_none : e < g → 0 ≡ parent (ground_in g objects edges) (forest_in g n objects) P e
  parent_none k = sym (parent_ground (ground_in g objects edges) (forest_in g n objects) P e k)

  made : g ≤ e → (b : Bool) → eqb (attribute_in (get_or objects e 0)) P ≡ b
      → cond b (suc (maker_in (get_or objects e 0))) zero ≡ parent (ground_in g objects edges) (forest_in g n objects) P e
  made k b q =
      sym (parent_made g n objects laid objects edges P e k h ∙ ap (λ (t : Bool). cond t (suc (maker_in (get_or objects e 0))) zero) q)

  pub parent_other : g ≤ e → (attribute_in (get_or objects e 0) ≡ P → ⊥) → 0 ≡ parent (ground_in g objects edges) (forest_in g n objects) P e
  parent_other k q = made k false (ne_eqb (attribute_in (get_or objects e 0)) P q)

  pub parent_here : g ≤ e → attribute_in (get_or objects e 0) ≡ P
      → maker_in (get_or objects e 0) + 1 ≡ parent (ground_in g objects edges) (forest_in g n objects) P e
  parent_here k q = add-one (maker_in (get_or objects e 0)) ∙ made k true (eq-eqb (attribute_in (get_or objects e 0)) P q)

-- what an object lacks, test by test
module _ (g n : ℕ) (objects : List ℕ) (laid : Laid g n objects) (edges : List ℕ) (mask P d : ℕ) (h : d < n) (S : Schema)
    (tied : mask ≡ collect S (needs_by P)) where
  abbrev Lacks : Bool → Type 0
  Lacks b = b ≡ lacks S (ground_in g objects edges) (forest_in g n objects) P d

  tests : (a b : Bool) (k : ℕ) → meets (classes_in (get_or objects d 0)) mask ≡ a → asks (ground_in g objects edges) P d ≡ b
      → kid (ground_in g objects edges) (forest_in g n objects) P d ≡ k
      → Lacks (a && not (b || ltb 0 k))
  unfolding lacks needs
  tests a b k p q r =
      let m : meets (classes_of S (ground_in g objects edges) (forest_in g n objects) d) (collect S (needs_by P)) ≡ a
      = ap₂ meets (classes_laid S g n objects laid edges d h) (sym tied) ∙ p in
      sym
      (ap₂ (λ (x y : Bool). x && not (y || ltb 0 (kid (ground_in g objects edges) (forest_in g n objects) P d))) m q
      ∙ ap (λ (i : ℕ). a && not (b || ltb 0 i)) r)

  pub lacks_needless : meets (classes_in (get_or objects d 0)) mask ≡ false → Lacks false
  lacks_needless p = tests false (asks (ground_in g objects edges) P d) (kid (ground_in g objects edges) (forest_in g n objects) P d) p refl refl

  pub lacks_asked : So (asks (ground_in g objects edges) P d) → Lacks false
  lacks_asked q =
      sym (and-false (meets (classes_in (get_or objects d 0)) mask))
      ∙ tests (meets (classes_in (get_or objects d 0)) mask) true (kid (ground_in g objects edges) (forest_in g n objects) P d) refl q refl

  pub lacks_value : (o : Option ℕ) (r : Bool) → is_some o ≡ not r → So (meets (classes_in (get_or objects d 0)) mask)
      → asks (ground_in g objects edges) P d ≡ false
      → number o ≡ kid (ground_in g objects edges) (forest_in g n objects) P d
      → Lacks r
  lacks_value o r e p q k = none o r e ∙ tests true false (number o) p q (sym k)
    where
      none : (o : Option ℕ) (r : Bool) → is_some o ≡ not r → r ≡ not (ltb 0 (number o))
      none None true e = refl
      none None false e = absurd (false≢true e)
      none (Some k) true e = absurd (true≢false e)
      none (Some k) false e = sym (ap not (lt-ltb 0 (k + 1) (omega arith)))
