-- A list that grows by facts of one kind: by none, by one, and by those of one item after those of another.
use Prim.Native.Nat.{ℕ, suc, ◌+◌, ◌*◌, ◌≤◌, ◌<◌}
use native.Mathlib.Numerals.{add-one}
use native.Mathlib.Omega.{arith}
use mathlib.Core.List.{List, [], ◌∷◌, ◌++◌, map, append-nil, append_assoc, map-append}
use mathlib.Core.Path.{◌≡◌, refl, sym, ap, subst, ◌∙◌}
use mathlib.Core.Logic.{◌⊎◌, inl, inr}
use borrow.Author.Tests.{lt-ltb, le-ltb}
use lib.ListN.{length, take, set, length-set}
use lib.Seq.{take-suc-set}
use Rattle.records.specs.Layout.{max_tokens}
use Rattle.records.specs.Concept.{forward}
use Rattle.chase.specs.Task.{Tie}
use Rattle.chase.specs.Facts.{Membership, Side, at_node, of_mark, Equation, Edge, Facts, none, member, equal, related, ◌⊕◌}
use Rattle.chase.specs.Bounds.{max_nodes}
use Rattle.primary.specs.Words.{part, member_of, edge_of}
use Rattle.primary.proofs.WordLaws.{member_word, tie_word_lem, edge_word}
use Rattle.asked.specs.declared.words.Kind.{Kind}
use Rattle.asked.specs.declared.words.Kind.TheVariants.{Members, Equations, Edges}
use Rattle.asked.specs.declared.words.Words.{Words}
use Rattle.asked.specs.Listed.{side_of, equation_of, listed, pushed, Room, Adds, Grown}

-- What is added.

-- facts that have none of that kind
abbrev Lacks : Kind → Facts → Type 0
Lacks Members F = F.members ≡ []
Lacks Equations F = F.equations ≡ []
Lacks Edges F = F.edges ≡ []

adds_lacking : (k : Kind) (F : Facts) (l : List ℕ) → Lacks k F → Adds k F l l
adds_lacking Members F l q = sym (append-nil (map member_of l)) ∙ ap (λ (f : List Membership). map member_of l ++ f) (sym q)
adds_lacking Equations F l q = sym (append-nil (map equation_of l)) ∙ ap (λ (f : List Equation). map equation_of l ++ f) (sym q)
adds_lacking Edges F l q = sym (append-nil (map edge_of l)) ∙ ap (λ (f : List Edge). map edge_of l ++ f) (sym q)

adds_none : (k : Kind) (l : List ℕ) → Adds k none l l
adds_none Members l = adds_lacking Members none l refl
adds_none Equations l = adds_lacking Equations none l refl
adds_none Edges l = adds_lacking Edges none l refl

joined : {A : Type 0} (x y z f g : List A) → y ≡ x ++ f → z ≡ y ++ g → z ≡ x ++ (f ++ g)
joined x y z f g p q = q ∙ ap (λ (l : List _). l ++ g) p ∙ append_assoc x f g

adds_join : (k : Kind) (F G : Facts) (l m n : List ℕ) → Adds k F l m → Adds k G m n → Adds k (F ⊕ G) l n
adds_join Members F G l m n p q = joined (map member_of l) _ _ F.members G.members p q
adds_join Equations F G l m n p q = joined (map equation_of l) _ _ F.equations G.equations p q
adds_join Edges F G l m n p q = joined (map edge_of l) _ _ F.edges G.edges p q

-- A list that grows.

pub grown_none : (k : Kind) (x : Words) (start end : ℕ) → length x.words ≡ max_tokens → start ≤ end → Grown k none start end x x
grown_none k x start end s h = record { adds = adds_none k (listed x); fits = omega arith; size = s }

pub grown_join : {k : Kind} {F G : Facts} {start middle end : ℕ} {x y z : Words} → Grown k F middle end x y → Grown k G start middle y z
    → Grown k (F ⊕ G) start end x z
grown_join {k} {F} {G} {start} {middle} {end} {x} {y} {z} p q =
    record {
      adds = adds_join k F G (listed x) (listed y) (listed z) p.adds q.adds;
      fits = omega (arith, p.fits, q.fits);
      size = q.size;
    }

-- the same facts at other places
pub grown_suc : {k : Kind} {F : Facts} {start end : ℕ} {x y : Words} → Grown k F start end x y → Grown k F (suc start) (suc end) x y
grown_suc p = record { adds = p.adds; fits = omega (arith, p.fits); size = p.size }

pub grown_late : {k : Kind} {F : Facts} {start end : ℕ} {x y : Words} → Grown k F start end x y → Grown k F start (suc end) x y
grown_late p = record { adds = p.adds; fits = omega (arith, p.fits); size = p.size }

pub grown_one : {k : Kind} {F : Facts} {x y : Words} (m : ℕ) → Grown k F 0 1 x y → Grown k F m (suc m) x y
grown_one m p = record { adds = p.adds; fits = omega (arith, p.fits); size = p.size }

pub grown_as : {k : Kind} {F G : Facts} {start b end : ℕ} {x y : Words} → G ≡ F → b ≡ start → Grown k F start end x y → Grown k G b end x y
grown_as q s p = rw (q, s) p

-- One fact.

pushed_listed : (x : Words) (v : ℕ) → Room x → listed (pushed x v) ≡ listed x ++ (v ∷ [])
unfolding pushed
pushed_listed x v h =
    ap (λ (i : ℕ). take i (set x.words x.count v)) (add-one x.count)
    ∙ take-suc-set x.words x.count v (omega (arith, h.count, h.size))

pushed_grown : (k : Kind) (F : Facts) (x : Words) (v : ℕ) → Room x → Adds k F (listed x) (listed x ++ (v ∷ [])) → Grown k F 0 1 x (pushed x v)
unfolding pushed
pushed_grown k F x v h a =
    record {
      adds = subst (Adds k F (listed x)) (sym (pushed_listed x v h)) a;
      fits = omega arith;
      size = length-set x.words x.count v ∙ h.size;
    }

pushed_fact : {A : Type 0} (f : ℕ → A) (l : List ℕ) (v : ℕ) (a : A) → f v ≡ a → map f (l ++ (v ∷ [])) ≡ map f l ++ (a ∷ [])
pushed_fact f l v a q = map-append f l (v ∷ []) ∙ ap (λ (b : _). map f l ++ (b ∷ [])) q

-- the words of equations
side_word : (n r : ℕ) → r < part → equation_of (n * part + r) ≡ record { left = n; right = side_of r }
side_word n r h = ap (λ (f : Tie). record { left = f.left; right = side_of f.right }) (tie_word_lem n r h)

pub side_node_lem : (m : ℕ) → m < max_nodes → side_of m ≡ at_node m
side_node_lem m h = rw (lt-ltb m max_nodes h)

pub side_mark : (k : ℕ) → side_of (max_nodes + k) ≡ of_mark k
side_mark k = rw (le-ltb (max_nodes + k) max_nodes (omega arith)) (ap of_mark (omega arith))

-- the same fact with its side told
pub grown_side : {k : Kind} {n : ℕ} {e : Side} {x y : Words} (m : ℕ) → side_of m ≡ e → Grown k (equal n (side_of m)) 0 1 x y → Grown k (equal n e) 0 1 x y
grown_side {k} {n} m q p = grown_as (ap (equal n) (sym q)) refl p

-- a fact of another kind leaves the list as it was
kept : {k : Kind} {F : Facts} {x : Words} (j : Kind) → Room x → k ≡ j → Lacks j F → Grown k F 0 1 x x
kept {k} {F} {x} j h q a = record { adds = rw q (adds_lacking j F (listed x) a); fits = omega arith; size = h.size }

pub kept_or : {k : Kind} {F : Facts} {x : Words} (i j : Kind) → Room x → (k ≡ i) ⊎ (k ≡ j) → Lacks i F → Lacks j F → Grown k F 0 1 x x
kept_or i j h (inl q) a b = kept i h q a
kept_or i j h (inr q) a b = kept j h q b

module _ {k : Kind} {x r : Words} (h : Room x) where
  pub member_grown : (A n : ℕ) → k ≡ Members → n < part → r ≡ pushed x (A * part + n) → Grown k (member A n) 0 1 x r
  member_grown A n q l e =
      rw (q, e) (pushed_grown Members (member A n) x _ h (pushed_fact member_of (listed x) _ _ (member_word A n l)))

  pub side_grown : (n m : ℕ) → k ≡ Equations → m < part → r ≡ pushed x (n * part + m) → Grown k (equal n (side_of m)) 0 1 x r
  side_grown n m q l e =
      rw (q, e) (pushed_grown Equations (equal n (side_of m)) x _ h (pushed_fact equation_of (listed x) _ _ (side_word n m l)))

  pub edge_grown : (P n m : ℕ) → k ≡ Edges → n < part → m < part → r ≡ pushed x ((P * part + n) * part + m)
      → Grown k (related forward P n m) 0 1 x r
  edge_grown P n m q i j e =
      rw (q, e) (pushed_grown Edges (related forward P n m) x _ h (pushed_fact edge_of (listed x) _ _ (edge_word P n m i j)))
