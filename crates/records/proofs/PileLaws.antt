-- The pile of a concept's tokens. An item on it ends in its own token, and before that token its operands stood in its place
-- (pile_item); what stands below the k topmost items is the pile where their tokens start (start_pile).
use Prim.Native.Nat.{ℕ, zero, suc, ◌+◌, ◌≤◌}
use native.Mathlib.Omega.{arith}
use native.Mathlib.Nat.{zero-add, add-zero, suc-add, add_assoc}
use mathlib.Core.List.{List, [], ◌∷◌, ◌++◌}
use mathlib.Core.Option.{none, some}
use mathlib.Core.Path.{◌≡◌, refl, sym, ap, ap₂, ◌∙◌}
use lib.ListN.{length, drop, length-append}
use lib.Seq.{drop-append-add}
use Rattle.records.specs.declared.token.Token.{Token}
use Rattle.records.specs.declared.token.Token.TheVariants.{Class, Everything, Constant, Both, Empty, Forward, Backward, Reached, Common, Mark}
use Rattle.records.specs.Concept.{Direction, forward, backward, Concept, class, everything, constant, both, reached, common, mark, Path, empty, step}
use Rattle.records.specs.ConceptRecord.{Item, concept, path, Pile, take_concept, take_path, token_at, push, after, pile_after}
use Rattle.records.specs.Helpers.Reading.{takes, start_of, step_token}

-- an item's own token, its last one
abbrev pub last_token : Item → Token
last_token (concept (class A)) = Class A
last_token (concept everything) = Everything
last_token (concept (constant a)) = Constant a
last_token (concept (both C D)) = Both
last_token (concept (reached p)) = Reached
last_token (concept (common p q)) = Common
last_token (concept (mark k)) = Mark k
last_token (path empty) = Empty
last_token (path (step p r P C)) = step_token r P

-- what that token takes, the last first
abbrev pub operands : Item → List Item
operands (concept (class A)) = []
operands (concept everything) = []
operands (concept (constant a)) = []
operands (concept (both C D)) = concept D ∷ concept C ∷ []
operands (concept (reached p)) = path p ∷ []
operands (concept (common p q)) = path q ∷ path p ∷ []
operands (concept (mark k)) = []
operands (path empty) = []
operands (path (step p r P C)) = concept C ∷ path p ∷ []

-- a pile that a token leaves: one item on what stands below its operands
record Put (token : Token) (before after : List Item) : Type 0 where
  item : Item
  below : List Item
  result : after ≡ item ∷ below
  taken : before ≡ operands item ++ below
  own : token ≡ last_token item

none≢some : (r : List Item) → ◌≡◌ {A = Pile} none (some r) → ⊥
none≢some r q = let z : ◌≡◌ {A = ℕ} 0 1 = cc in omega arith

some_injective : (s r : List Item) → ◌≡◌ {A = Pile} (some s) (some r) → r ≡ s
some_injective s r q = cc

-- what was taken, where a pile is left
took_concept : (s : List Item) (rest : Concept → List Item → Pile) (r : List Item) → take_concept s rest ≡ some r
    → (C : Concept) × (t : List Item) × (s ≡ concept C ∷ t) × (rest C t ≡ some r)
took_concept [] rest r h = absurd (none≢some r h)
took_concept (concept C ∷ s) rest r h = (C, s, refl, h)
took_concept (path p ∷ s) rest r h = absurd (none≢some r h)

took_path : (s : List Item) (rest : Path → List Item → Pile) (r : List Item) → take_path s rest ≡ some r
    → (p : Path) × (t : List Item) × (s ≡ path p ∷ t) × (rest p t ≡ some r)
took_path [] rest r h = absurd (none≢some r h)
took_path (concept C ∷ s) rest r h = absurd (none≢some r h)
took_path (path p ∷ s) rest r h = (p, s, refl, h)

-- a token that takes nothing, one item, or two
puts_none : (x : Item) (s r : List Item) → operands x ≡ [] → ◌≡◌ {A = Pile} (some (x ∷ s)) (some r) → Put (last_token x) s r
puts_none x s r o q = record {
  item = x;
  below = s;
  result = some_injective (x ∷ s) r q;
  taken = ap (λ (l : List Item). l ++ s)
      (sym o);
  own = refl;
}

puts_two : (x y z : Item) (s a b r : List Item) → operands x ≡ y ∷ z ∷ [] → s ≡ y ∷ a → a ≡ z ∷ b → ◌≡◌ {A = Pile} (some (x ∷ b)) (some r)
    → Put (last_token x) s r
puts_two x y z s a b r o e f q =
    record {
      item = x;
      below = b;
      result = some_injective (x ∷ b) r q;
      taken = e ∙ ap (λ (l : List Item). y ∷ l) f ∙ ap (λ (l : List Item). l ++ b) (sym o);
      own = refl;
    }

puts_step : (r : Direction) (P : ℕ) (s t : List Item)
    → take_concept s (λ C a. take_path a λ p b. some (path (step p r P C) ∷ b)) ≡ some t
    → Put (step_token r P) s t
puts_step r P s t q =
    let c = took_concept s _ t q in
    let p = took_path c.1 _ t c.3 in
    puts_two (path (step p.0 r P c.0)) (concept c.0) (path p.0) s c.1 p.1 t refl c.2 p.2 p.3

push_puts : (token : Token) (s r : List Item) → push token s ≡ some r → Put token s r
push_puts (Class A) s r q = puts_none (concept (class A)) s r refl q
push_puts Everything s r q = puts_none (concept everything) s r refl q
push_puts (Constant a) s r q = puts_none (concept (constant a)) s r refl q
push_puts Both s r q =
    let d = took_concept s _ r q in
    let c = took_concept d.1 _ r d.3 in
    puts_two (concept (both c.0 d.0)) (concept d.0) (concept c.0) s d.1 c.1 r refl d.2 c.2 c.3
push_puts Empty s r q = puts_none (path empty) s r refl q
push_puts (Forward P) s r q = puts_step forward P s r q
push_puts (Backward P) s r q = puts_step backward P s r q
push_puts Reached s r q =
    let p = took_path s _ r q in
    record { item = concept (reached p.0); below = p.1; result = some_injective _ r p.3; taken = p.2; own = refl }
push_puts Common s r q =
    let b = took_path s _ r q in
    let a = took_path b.1 _ r b.3 in
    puts_two (concept (common a.0 b.0)) (path b.0) (path a.0) s b.1 a.1 r refl b.2 a.2 a.3
push_puts (Mark k) s r q = puts_none (concept (mark k)) s r refl q

takes_operands : (x : Item) → takes (last_token x) ≡ length (operands x)
unfolding takes
takes_operands (concept (class A)) = refl
takes_operands (concept everything) = refl
takes_operands (concept (constant a)) = refl
takes_operands (concept (both C D)) = refl
takes_operands (concept (reached p)) = refl
takes_operands (concept (common p q)) = refl
takes_operands (concept (mark k)) = refl
takes_operands (path empty) = refl
takes_operands (path (step p forward P C)) = refl
takes_operands (path (step p backward P C)) = refl

module _ (w : List ℕ) where
  -- an item on the pile: its own token was the last, and its operands stood in its place
  pile_item : (e : ℕ) (x : Item) (r : List Item) → pile_after w (suc e) ≡ some (x ∷ r)
      → (token_at w e ≡ last_token x) × (pile_after w e ≡ some (operands x ++ r))
  unfolding pile_after
  pile_item e x r = go (pile_after w e) refl
    where
      go : (p : Pile) → pile_after w e ≡ p → after (token_at w e) p ≡ some (x ∷ r)
          → (token_at w e ≡ last_token x) × (pile_after w e ≡ some (operands x ++ r))
      go none f q = absurd (none≢some (x ∷ r) q)
      go (some s) f q =
          let u = push_puts (token_at w e) s (x ∷ r) q in
          let g : x ∷ r ≡ u.item ∷ u.below = u.result in
          let i : u.item ≡ x = cc in
          let b : u.below ≡ r = cc in
          (u.own ∙ ap last_token i, f ∙ ap {B = Pile} some (u.taken ∙ ap₂ (λ (y : Item) (l : List Item). operands y ++ l) i b))

  -- each token puts an item
  pub pile_empty : (e : ℕ) → pile_after w e ≡ some [] → e ≡ zero
  unfolding pile_after
  pile_empty zero q = refl
  pile_empty (suc e) q = go (pile_after w e) q
    where
      go : (p : Pile) → after (token_at w e) p ≡ some [] → suc e ≡ zero
      go none q = absurd (none≢some [] q)
      go (some s) q = let f = (push_puts (token_at w e) s [] q).result in absurd (let z : ◌≡◌ {A = ℕ} 0 1 = cc in omega arith)

  pile_zero : (s : List Item) → pile_after w zero ≡ some s → s ≡ []
  unfolding pile_after
  pile_zero s q = some_injective [] s q

  start_add : (e j k : ℕ) → start_of w e (j + k) ≡ start_of w (start_of w e j) k
  unfolding start_of
  start_add zero j k = refl
  start_add (suc e) zero k = ap (start_of w (suc e)) (zero-add k)
  start_add (suc e) (suc j) k =
      ap (start_of w (suc e)) (suc-add j k) ∙ ap (start_of w e) (sym (add_assoc (takes (token_at w e)) j k)) ∙ start_add e
      (takes (token_at w e) + j) k

  pub start_le : (e k : ℕ) → start_of w e k ≤ e
  unfolding start_of
  start_le zero k = omega arith
  start_le (suc e) zero = omega arith
  start_le (suc e) (suc k) = omega (arith, start_le e (takes (token_at w e) + k))

  -- below the k topmost items stands the pile where their tokens start
  pub start_pile : (e k : ℕ) (s : List Item) → pile_after w e ≡ some s → k ≤ length s → pile_after w (start_of w e k) ≡ some (drop k s)
  unfolding start_of
  start_pile zero zero s q h = q
  start_pile zero (suc k) s q h = absurd (omega (arith, ap length (pile_zero s q)))
  start_pile (suc e) zero s q h = q
  start_pile (suc e) (suc k) [] q h = absurd (omega arith)
  start_pile (suc e) (suc k) (x ∷ r) q h =
      let i = pile_item e x r q in
      let t : takes (token_at w e) ≡ length (operands x) = ap takes i.0 ∙ takes_operands x in
      start_pile e (takes (token_at w e) + k) (operands x ++ r) i.1 (omega (arith, t, length-append (operands x) r))
      ∙ ap {B = Pile} some (ap (λ (n : ℕ). drop (n + k) (operands x ++ r)) t ∙ drop-append-add (operands x) r k)

  -- item x ends at token e
  unfoldable pub Ends : Item → ℕ → Type 0
  Ends x e = (s : List Item) × (pile_after w e ≡ some (x ∷ s))

  -- .. after one token at least
  pub at_suc : (X : ℕ → Type 0) (x : Item) (e : ℕ) → Ends x e → ((d : ℕ) → Ends x (suc d) → X (suc d)) → X e
  unfolding Ends
  at_suc X x zero h f = absurd (omega (arith, ap length (pile_zero (x ∷ h.0) h.1)))
  at_suc X x (suc d) h f = f d h

  pub ends_token : (x : Item) (e : ℕ) → Ends x (suc e) → token_at w e ≡ last_token x
  unfolding Ends
  ends_token x e h = (pile_item e x h.0 h.1).0

  -- the operands, where they end, and where the whole starts
  start_one : (x : Item) (e : ℕ) → Ends x (suc e) → start_of w (suc e) 1 ≡ start_of w e (length (operands x))
  unfolding start_of
  start_one x e h = ap (start_of w e) (add-zero (takes (token_at w e)) ∙ ap takes (ends_token x e h) ∙ takes_operands x)

  start_none : (e : ℕ) → start_of w e 0 ≡ e
  unfolding start_of
  start_none zero = refl
  start_none (suc e) = refl

  pub ends_none : (x : Item) (e : ℕ) → operands x ≡ [] → Ends x (suc e) → start_of w (suc e) 1 ≡ e
  ends_none x e o h = start_one x e h ∙ ap (λ (l : List Item). start_of w e (length l)) o ∙ start_none e

  pub ends_one : (x y : Item) (e : ℕ) → operands x ≡ y ∷ [] → Ends x (suc e) → Ends y e × (start_of w (suc e) 1 ≡ start_of w e 1)
  unfolding Ends
  ends_one x y e o h = (
    (h.0, (pile_item e x h.0 h.1).1 ∙ ap (λ (l : List Item). some (l ++ h.0)) o),
    start_one x e h ∙ ap (λ (l : List Item). start_of w e (length l)) o,
  )

  pub ends_two : (x y z : Item) (e : ℕ) → operands x ≡ y ∷ z ∷ [] → Ends x (suc e)
      → Ends y e × Ends z (start_of w e 1) × (start_of w (suc e) 1 ≡ start_of w (start_of w e 1) 1)
  unfolding Ends
  ends_two x y z e o h =
      let q : pile_after w e ≡ some (y ∷ z ∷ h.0) = (pile_item e x h.0 h.1).1 ∙ ap {B = Pile}
      (λ (l : List Item). some (l ++ h.0)) o in (
        (z ∷ h.0, q),
        (h.0, start_pile e 1 (y ∷ z ∷ h.0) q (omega arith)),
        start_one x e h ∙ ap (λ (l : List Item). start_of w e (length l)) o ∙ start_add e 1 1,
      )
