-- The made part: an object that needs a value of an attribute and has none may get one made value. Which are made is led by
-- the view: from each object of the ground the view is walked once, with a list of the made objects that stand at the
-- present place of the view, besides that object itself.
use Rattle.std.specs.Prelude.{ℕ, zero, suc, Bool, cond, not, ◌&&◌, ◌||◌, List, [], ◌∷◌, ◌++◌, eqb, ltb}
use Rattle.records.specs.Schema.{Schema}
use Rattle.records.specs.Concept.{Direction, forward, backward, Concept, class, everything, constant, both, reached, common, mark, Path, empty, step}
use Rattle.records.specs.Helpers.Loops.{any_of, each, upto}
use Rattle.chase.specs.ClassSet.{full}
use Rattle.chase.specs.Axioms.{needs, image}
use Rattle.chase.specs.Ground.{Ground, set_at}

-- the made objects in the order of their making: of each its maker, the attribute of which it is a value, and its class set
pub data Forest : Type 0 where
  bare : Forest
  grow : Forest → ℕ → ℕ → ℕ → Forest

-- the forest as lists, the oldest object first: what f makes of each, and so the makers, the attributes and the class sets
unfoldable pub entries : (ℕ → ℕ → ℕ → ℕ) → Forest → List ℕ
entries f bare = []
entries f (grow T d P c) = entries f T ++ (f d P c ∷ [])

abbrev pub makers : Forest → List ℕ
makers = entries (λ d P c. d)

abbrev pub labels : Forest → List ℕ
labels = entries (λ d P c. P)

abbrev pub made_sets : Forest → List ℕ
made_sets = entries (λ d P c. c)

-- the object that a number stands for, if any, before the list
abbrev pub push : ℕ → List ℕ → List ℕ
push zero l = l
push (suc e) l = e ∷ l

module _ (G : Ground) where
  -- all objects: those of the ground, then the made ones
  unfoldable pub size : Forest → ℕ
  size bare = G.objects
  size (grow T d P c) = suc (size T)

  -- the value made of P at d: 0 for none, e + 1 for object e
  unfoldable pub kid : Forest → ℕ → ℕ → ℕ
  kid bare P d = zero
  kid (grow T m R c) P d = cond (eqb m d && eqb R P) (suc (size T)) (kid T P d)

  -- the maker of e, if e was made as a value of P: 0 for none, d + 1 for object d
  unfoldable pub parent : Forest → ℕ → ℕ → ℕ
  parent bare P e = zero
  parent (grow T m R c) P e = cond (eqb e (size T)) (cond (eqb R P) (suc m) zero) (parent T P e)

  -- the query has a pair of P from d
  unfoldable pub asks : ℕ → ℕ → Bool
  asks P d = any_of (λ e. eqb e.attribute P && eqb e.origin d) G.edges

  -- where the step leads from d within the made part
  abbrev pub hop : Forest → Direction → ℕ → ℕ → ℕ
  hop T forward P d = kid T P d
  hop T backward P d = parent T P d

  abbrev pub next : Forest → Direction → ℕ → List ℕ → List ℕ
  next T r P [] = []
  next T r P (d ∷ l) = push (hop T r P d) (next T r P l)

module _ (S : Schema) (G : Ground) where
  -- the class set of an object; that of any other number is full
  unfoldable pub classes_of : Forest → ℕ → ℕ
  classes_of bare d = cond (ltb d G.objects) (set_at G d) (full S.signature.classes)
  classes_of (grow T m R c) d = cond (eqb d (size G T)) c (classes_of T d)

  -- d needs a value of P, and has none
  unfoldable pub lacks : Forest → ℕ → ℕ → Bool
  lacks T P d = needs S (classes_of T d) P && not (asks G P d || ltb 0 (kid G T P d))

  -- a value of P made at d
  abbrev pub sprout : ℕ → ℕ → Forest → Forest
  sprout P d T = grow T d P (image S (classes_of T d) P)

  unfoldable pub make : ℕ → ℕ → Forest → Forest
  make P d T = cond (lacks T P d) (sprout P d T) T

  -- before a forward step the objects on the list get the values that they lack
  unfoldable pub make_for : Direction → ℕ → List ℕ → Forest → Forest
  make_for forward P l T = each (make P) l T
  make_for backward P l T = T

  -- the walk from object s of the ground: the forest after it, and for a path the made objects that stand at its end
  abbrev mutual
    pub walk : Concept → ℕ → List ℕ → Forest → Forest
    walk (class A) s l T = T
    walk everything s l T = T
    walk (constant a) s l T = T
    walk (both C D) s l T = walk D s l (walk C s l T)
    walk (reached p) s l T = (trek p s l T).0
    walk (common p q) s l T = (trek q s l (trek p s l T).0).0
    walk (mark k) s l T = T

    pub trek : Path → ℕ → List ℕ → Forest → Forest × List ℕ
    trek empty s l T = (T, l)
    trek (step p r P C) s l T =
        let before = trek p s l T in
        let U = make_for r P (s ∷ before.1) before.0 in
        let m = next G U r P (s ∷ before.1) in
        (walk C s m U, m)

  -- the walk of the view from each object of the ground
  unfoldable pub walks : Concept → Forest
  walks view = upto (λ s. walk view s []) G.objects bare
