-- The tables of an attribute: each is right of what has been passed, and one object or edge more is one store. What an object
-- lacks is told by what is looked up of it.
use Prim.Native.Nat.{ℕ, zero, suc, ◌+◌, ◌≤◌, ◌<◌}
use native.Mathlib.Decide.{ℕ_discrete, dec_lt}
use native.Mathlib.Numerals.{add-one}
use native.Mathlib.Omega.{arith}
use mathlib.Core.Bool.{Bool, true, false, So, cond, not, ◌&&◌, ◌||◌, and-true, and-false, or-false}
use mathlib.Core.List.{List, [], ◌∷◌}
use mathlib.Core.Path.{◌≡◌, refl, sym, ap, ap₂, subst, ◌∙◌}
use lib.Dec.{eqb, ltb}
use lib.ListN.{length, get_or, set, take, replicate, length-set, length-replicate, get_or-replicate}
use lib.Seq.{take_all, get_or-set_same, get_or-set_other}
use Rattle.std.proofs.lemmas.List.{get_or_past}
use borrow.Author.Tests.{lt-ltb, eqb-true, eq-eqb, ne_eqb}
use Rattle.records.specs.Layout.{max_objects}
use Rattle.records.specs.Schema.{Schema}
use Rattle.records.proofs.General.BoolLaws.{and_both, and_parts}
use Rattle.records.specs.Helpers.Loops.{any_of}
use Rattle.chase.specs.Axioms.{collect, needs_by, needs}
use Rattle.chase.specs.ClassSet.{meets}
use Rattle.chase.specs.Ground.{Ground}
use Rattle.chase.specs.Forest.{Forest, kid, parent, asks, classes_of, lacks}
use Rattle.records.proofs.General.LoopLaws.{any_next, any_map}
use Rattle.primary.specs.Words.{part, edge_of}
use Rattle.ground.specs.Objects.{attribute_in, maker_in, ground_in, forest_in, Laid}
use Rattle.std.specs.Prelude.{Option, Some, None, is_some}
use Rattle.forest.specs.Kept.{Kept, number}
use Rattle.forest.proofs.ObjectLaws.{forest_none, forest_more, size_laid, parent_made}
use Rattle.candidate.specs.Tables.{Kids, Origins, LookedUp}

-- the maker that a word tells, as a place; it is d's where the word makes a value of P at d
module _ (P w : ℕ) where
  abbrev maker : ℕ
  maker = cond (eqb (attribute_in w) P) (suc (maker_in w)) zero

  abbrev makes : ℕ → Bool
  makes d = eqb (maker_in w) d && eqb (attribute_in w) P

  made_here : (d : ℕ) → d + 1 ≡ maker → So (makes d)
  made_here d q = go (eqb (attribute_in w) P) refl q
    where
      go : (b : Bool) → eqb (attribute_in w) P ≡ b → d + 1 ≡ cond b (suc (maker_in w)) zero → So (makes d)
      go true e k = and_both (eqb (maker_in w) d) (eqb (attribute_in w) P) (eq-eqb (maker_in w) d (omega arith)) e
      go false e k = absurd (omega arith)

  made_elsewhere : (d : ℕ) → (d + 1 ≡ maker → ⊥) → makes d ≡ false
  made_elsewhere d n = go (makes d) refl
    where
      go : (b : Bool) → makes d ≡ b → b ≡ false
      go true q =
          let k = and_parts (eqb (maker_in w) d) (eqb (attribute_in w) P) q in
          absurd (n
          (add-one d ∙ ap suc (sym (eqb-true (maker_in w) d k.0)) ∙ sym (ap (λ (b : Bool). cond b (suc (maker_in w)) zero) k.1)))
      go false q = refl

-- the values made, among the objects below e
module _ (g : ℕ) (objects : List ℕ) (P : ℕ) where
  pub kids_none : (n m : ℕ) → m ≡ max_objects → Kept g n objects → Kids g g objects P (replicate m None)
  unfolding kid
  kids_none n m q kept =
      record {
        size = length-replicate {A = Option ℕ} m None ∙ q;
        values = λ edges d h.
            ap number (get_or-replicate {A = Option ℕ} m d None None (omega arith))
            ∙ sym
            (ap (λ (T : Forest). kid (ground_in g objects edges) T P d)
            (forest_none g g objects (omega (arith, kept.laid.ground, kept.laid.fits, kept.laid.room))));
      }

  module _ (e n place : ℕ) (kept : Kept g n objects) (h : g ≤ e) (k : e < n)
      (is : (edges : List ℕ) → place ≡ parent (ground_in g objects edges) (forest_in g n objects) P e) where
    abbrev w : ℕ
    w = get_or objects e 0

    told : place ≡ maker P w
    told = is [] ∙ parent_made g n objects kept.laid objects [] P e h k

    pub place_bound : place ≤ max_objects
    place_bound = go (eqb (attribute_in w) P) told
      where
        go : (b : Bool) → place ≡ cond b (suc (maker_in w)) zero → place ≤ max_objects
        go true q = omega (arith, kept.makers e h k, kept.laid.fits)
        go false q = omega arith

    -- the object e is its maker's
    kid_next : (edges : List ℕ) (d : ℕ) (b : Bool) → makes P w d ≡ b
        → cond b (e + 1) (kid (ground_in g objects edges) (forest_in g e objects) P d)
        ≡ kid (ground_in g objects edges) (forest_in g (e + 1) objects) P d
    unfolding kid
    kid_next edges d b q =
        let G = ground_in g objects edges in
        let laid : Laid g e objects = record { room = kept.laid.room; ground = h; fits = omega (arith, kept.laid.fits) } in
        sym
        (rw add-one
        (ap (λ (T : Forest). kid G T P d) (forest_more g e objects h (omega (arith, kept.laid.fits, kept.laid.room)))
        ∙ ap (λ (s : ℕ). cond (makes P w d) (suc s) (kid G (forest_in g e objects) P d)) (size_laid g e objects laid objects edges)
        ∙ ap (λ (t : Bool). cond t (suc e) (kid G (forest_in g e objects) P d)) q))

    pub kids_made : (m : ℕ) (table : List (Option ℕ)) → place ≡ m + 1 → Kids g e objects P table
        → Kids g (e + 1) objects P (set table m (Some e))
    kids_made m table q z =
        record {
          size = length-set table m (Some e) ∙ z.size;
          values = λ edges d l.
              elim (ℕ_discrete d m) [
                | yes i ↦
                    ap (λ (j : ℕ). number (get_or (set table m (Some e)) j None)) i
                    ∙ ap number (get_or-set_same table m (Some e) None (omega (arith, place_bound, z.size)))
                    ∙ kid_next edges d true (made_here P w d (ap (λ (j : ℕ). j + 1) i ∙ sym q ∙ told))
                | no n ↦
                    ap number (get_or-set_other table m d (Some e) None n) ∙ z.values edges d l
                    ∙ kid_next edges d false (made_elsewhere P w d (λ r. n (omega (arith, r, q, told))))
              ];
        }

    pub kids_passed : (table : List (Option ℕ)) → place ≡ 0 → Kids g e objects P table → Kids g (e + 1) objects P table
    kids_passed table q z =
        record {
          size = z.size;
          values = λ edges d l. z.values edges d l ∙ kid_next edges d false (made_elsewhere P w d (λ r. absurd (omega (arith, r, q, told))));
        }

  pub kids_all : (e n : ℕ) (table : List (Option ℕ)) → e ≡ n → Kids g e objects P table → Kids g n objects P table
  kids_all e n table q z = subst (λ (m : ℕ). Kids g m objects P table) q z

-- the query has a pair of P from d, among the edges l
module _ (P d : ℕ) where
  abbrev from : ℕ → Bool
  from w = eqb (edge_of w).attribute P && eqb (edge_of w).origin d

  asks_words : (g : ℕ) (objects l : List ℕ) → asks (ground_in g objects l) P d ≡ any_of from l
  unfolding asks
  asks_words g objects l = any_map (λ e. eqb e.attribute P && eqb e.origin d) edge_of l

  asks_next : (g : ℕ) (objects l : List ℕ) (i : ℕ) → i < length l
      → asks (ground_in g objects (take (i + 1) l)) P d ≡ asks (ground_in g objects (take i l)) P d || from (get_or l i 0)
  asks_next g objects l i h =
      asks_words g objects (take (i + 1) l) ∙ ap (λ (j : ℕ). any_of from (take j l)) (add-one i) ∙ any_next from l i 0 h
      ∙ ap (λ (b : Bool). b || from (get_or l i 0)) (sym (asks_words g objects (take i l)))

  -- an origin is below part
  none_from : part ≤ d → (l : List ℕ) → any_of from l ≡ false
  unfolding any_of
  none_from h [] = refl
  none_from h (w ∷ l) =
      ap₂ ◌||◌
      (ap (λ (b : Bool). eqb (edge_of w).attribute P && b) (ne_eqb (edge_of w).origin d (λ q. omega arith)) ∙ and-false (eqb (edge_of w).attribute P))
      (none_from h l)

  pub asked_beyond : (g : ℕ) (objects l : List ℕ) → part ≤ d → false ≡ asks (ground_in g objects l) P d
  asked_beyond g objects l h = sym (asks_words g objects l ∙ none_from h l)

module _ (l : List ℕ) (P : ℕ) where
  pub origins_none : (n : ℕ) → n ≡ part → Origins (take 0 l) P (replicate n false)
  unfolding asks any_of
  origins_none n q =
      record {
        size = length-replicate n false ∙ q;
        asked = λ g objects d h. get_or-replicate {A = Bool} n d false false (omega arith);
      }

  pub origins_more : (i w : ℕ) (table : List Bool) → w ≡ get_or l i 0 → i < length l → Origins (take i l) P table
      → Origins (take (i + 1) l) P
      (set table (edge_of w).origin (get_or table (edge_of w).origin false || eqb (edge_of w).attribute P))
  origins_more i w table e h z =
      record {
        size = length-set table o new ∙ z.size;
        asked = λ g objects d k.
            pick d (ℕ_discrete d o) (asks (ground_in g objects (take i l)) P d) (z.asked g objects d k)
            ∙ ap (λ (x : ℕ). asks (ground_in g objects (take i l)) P d || from P d x) e
            ∙ sym (asks_next P d g objects l i h);
      }
    where
      o : ℕ
      o = (edge_of w).origin

      here : Bool
      here = eqb (edge_of w).attribute P

      new : Bool
      new = get_or table o false || here

      pick : (d : ℕ) → Dec (d ≡ o) → (b : Bool) → get_or table d false ≡ b → get_or (set table o new) d false ≡ b || from P d w
      pick d (yes q) b p =
          ap (λ (j : ℕ). get_or (set table o new) j false) q ∙ get_or-set_same table o new false (omega (arith, z.size))
          ∙ ap₂ ◌||◌ (ap (λ (j : ℕ). get_or table j false) (sym q) ∙ p)
          (sym (ap (λ (t : Bool). here && t) (eq-eqb o d (sym q)) ∙ and-true here))
      pick d (no n) b p =
          get_or-set_other table o d new false n ∙ p
          ∙ sym (ap (λ (t : Bool). b || t) (ap (λ (t : Bool). here && t) (ne_eqb o d (λ q. n (sym q))) ∙ and-false here) ∙ or-false b)

  pub origins_all : (i : ℕ) (table : List Bool) → length l ≤ i → Origins (take i l) P table → Origins l P table
  origins_all i table h z = subst (λ (m : List ℕ). Origins m P table) (take_all i l h) z

-- beyond the table no object is an origin
pub origin_is : {edges : List ℕ} {P : ℕ} {table : List Bool} → Origins edges P table → (g : ℕ) (objects : List ℕ) (d : ℕ)
    → get_or table d false ≡ asks (ground_in g objects edges) P d
origin_is {edges} {P} {table} z g objects d = elim (dec_lt d part) [
  | yes l ↦ z.asked g objects d l
  | no n ↦ get_or_past table d false (omega (arith, z.size)) ∙ asked_beyond P d g objects edges (omega arith)
]

-- what an object lacks, by its classes and what is looked up
some_number : (o : Option ℕ) → is_some o ≡ ltb 0 (number o)
some_number None = refl
some_number (Some e) = sym (lt-ltb 0 (e + 1) (omega arith))

pub lacks_is : (S : Schema) (G : Ground) (T : Forest) (P d c m : ℕ) (o : Option ℕ) (a b : Bool)
    → b ≡ (meets c m && not (a || is_some o))
    → c ≡ classes_of S G T d → LookedUp S G T P d m a o → b ≡ lacks S G T P d
unfolding lacks needs
lacks_is S G T P d c m o a b e p u =
    e
    ∙ ap₂ (λ (x y : Bool). x && not y) (ap₂ meets p u.needed) (ap₂ ◌||◌ u.query (some_number o ∙ ap (ltb 0) u.value))

-- .. and what is looked up, in the tables of the attribute
pub looked_up : {g n : ℕ} {objects edges : List ℕ} {P mask : ℕ} {from : List Bool} {made : List (Option ℕ)} (S : Schema) (d : ℕ)
    → mask ≡ collect S (needs_by P) → Origins edges P from → Kids g n objects P made → d < max_objects
    → LookedUp S (ground_in g objects edges) (forest_in g n objects) P d mask (get_or from d false) (get_or made d None)
looked_up {g} {n} {objects} {edges} S d m o z h = record { needed = m; query = origin_is o g objects d; value = z.values edges d h }
