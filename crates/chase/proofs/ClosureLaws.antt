-- The closure of a class set: raising it until it is closed. Sound: in a legal state an object has all the classes that are
-- forced on it (Forced). Closed: it has every class that an axiom asks for, the domain of what it needs among them.
use Prim.Native.Nat.{ℕ, suc, ◌-◌, ◌^◌, ◌≤◌, ◌<◌}
use native.Mathlib.Omega.{arith}
use native.Mathlib.Decide.{dec_lt}
use mathlib.Core.Bool.{So}
use mathlib.Core.Logic.{◌⊎◌, inl, inr, ⊎_elim}
use mathlib.Core.Path.{◌≡◌, sym, subst}
use lib.Bits.{bit_or, or_lt}
use lib.Pow.{pow_pos, ones_lt}
use Rattle.records.specs.declared.schema.Axiom.{Axiom}
use Rattle.records.specs.declared.schema.Axiom.TheVariants.{Subclass, Typing, Necessary, Single, Relates}
use Rattle.records.specs.State.{State, Member, Related, Every, Some}
use Rattle.records.specs.Schema.{Schema, Holds, Legal}
use Rattle.records.specs.Helpers.Declared.{DeclaredAxiom}
use Rattle.chase.specs.ClassSet.{has, full}
use Rattle.chase.specs.Axioms.{domain, needs, is_single, values, raise_by, raise, closure, image}
use Rattle.records.proofs.General.LoopLaws.{Grows, upto_grows, upto_fixed, grows_le, settle_ok, settle_fixed, settle_next, settle_stop}
use Rattle.chase.proofs.ClassSetLaws.{has_left, has_split, has_none, has_absorbed, or_le, or_le_right}
use Rattle.chase.proofs.AxiomLaws.{only_is, only_of, only_place, placed, only_below, Of, domain_is, needs_is, single_is, values_is, Small, none_small, place_small, domain_small, values_small}

-- in state I, object d is in each class of c
abbrev pub Fulfils : State → ℕ → ℕ → Type 0
Fulfils I c d = (A : ℕ) → So (has c A) → Member I A d

pub fulfils_or : (I : State) (c e d : ℕ) → Fulfils I c d → Fulfils I e d → Fulfils I (bit_or c e) d
fulfils_or I c e d h k A x = ⊎_elim (h A) (k A) (has_split c e A x)

-- what the axioms say of an object and its values in a legal state
module _ (S : Schema) (I : State) (legal : Legal S I) where
  of : (x : Axiom) → Of S x → Holds I x
  of x o = subst (Holds I) o.2 (legal.holds o.0 o.1)

  pub domain_sound : (P d e : ℕ) → d < I.size → e < I.size → Related I P d e → Fulfils I (domain S P) d
  domain_sound P d e hd he r A h = let x = domain_is S P A h in (of (Relates P A x.0) x.1 d hd e he r).0

  pub values_sound : (c P d e : ℕ) → d < I.size → e < I.size → Fulfils I c d → Related I P d e → Fulfils I (values S c P) e
  values_sound c P d e hd he m r B h =
      ⊎_elim (λ x. of (Typing x.0 P B) x.2 d hd (m x.0 x.1) e he r) (λ x. (of (Relates P x.0 B) x.1 d hd e he r).1)
      (values_is S c P B h)

  pub needs_sound : (c P d : ℕ) → d < I.size → Fulfils I c d → So (needs S c P) → Some I λ e. Related I P d e
  needs_sound c P d hd m h = let x = needs_is S c P h in of (Necessary x.0 P) x.2 d hd (m x.0 x.1)

  pub single_sound : (c P d e f : ℕ) → d < I.size → e < I.size → f < I.size → Fulfils I c d → So (is_single S c P) → Related I P d e
      → Related I P d f → e ≡ f
  single_sound c P d e f hd he hf m h r q = let x = single_is S c P h in of (Single x.0 P) x.2 d hd (m x.0 x.1) e he r f hf q

  raise_by_lem : (x : Axiom) → Holds I x → (c d : ℕ) → d < I.size → Fulfils I c d → Fulfils I (raise_by S c x) d
  raise_by_lem (Subclass B C) h c d hd m A y =
      let k = only_place (has c B) C A y in subst (λ (D : ℕ). Member I D d) k.1 (h d hd (m B k.0))
  raise_by_lem (Typing B R C) h c d hd m A y = absurd (has_none A y)
  raise_by_lem (Necessary B R) h c d hd m A y =
      let k = only_is (has c B) (domain S R) A y in
      let v = h d hd (m B k.0) in
      domain_sound R d v.0 hd v.1 v.2 A k.1
  raise_by_lem (Single B R) h c d hd m A y = absurd (has_none A y)
  raise_by_lem (Relates R B C) h c d hd m A y = absurd (has_none A y)

-- a union changes nothing, or makes the number larger
pub or_grows : (c d : ℕ) → (bit_or c d ≡ c) ⊎ (c < bit_or c d)
or_grows c d =
    elim (dec_lt c (bit_or c d)) [
      | yes y ↦ inr y
      | no n ↦ inl (omega (arith, or_le c d))
    ]

raise_small_by : (S : Schema) → ((P : ℕ) → Small S (domain S P)) → (x : Axiom) → DeclaredAxiom S.signature x → (c : ℕ)
    → Small S (raise_by S c x)
raise_small_by S d (Subclass B C) h c = place_small S (has c B) C h.1
raise_small_by S d (Typing B R C) h c = none_small S
raise_small_by S d (Necessary B R) h c = only_below (has c B) (domain S R) S.signature.classes (d R)
raise_small_by S d (Single B R) h c = none_small S
raise_small_by S d (Relates R B C) h c = none_small S

-- c is small and includes o, and in legal states each object with the classes of o has those of c
pub record Forced (S : Schema) (o c : ℕ) : Type 0 where
  pub small : Small S c
  pub above : (A : ℕ) → So (has o A) → So (has c A)
  pub sound : (I : State) → Legal S I → Every I λ d. Fulfils I o d → Fulfils I c d

module _ (S : Schema) (declared : (i : ℕ) → i < S.axioms → DeclaredAxiom S.signature (S.axiom_at i)) where
  module _ (o : ℕ) where
    round : ℕ → ℕ → ℕ
    round i c = bit_or c (raise_by S c (S.axiom_at i))

    round_grows : (i : ℕ) → i < S.axioms → Grows (λ c. c) (Forced S o) (round i)
    unfolding round
    round_grows i h c ok = (
      record {
        small = or_lt S.signature.classes c (raise_by S c (S.axiom_at i)) ok.small
            (raise_small_by S (domain_small S declared) (S.axiom_at i) (declared i h) c);
        above = λ A h. has_left c (raise_by S c (S.axiom_at i)) A (ok.above A h);
        sound = λ I legal d hd m.
            fulfils_or I c (raise_by S c (S.axiom_at i)) d (ok.sound I legal d hd m)
            (raise_by_lem S I legal (S.axiom_at i) (legal.holds i h) c d hd (ok.sound I legal d hd m));
      },
      or_grows c (raise_by S c (S.axiom_at i)),
    )

    raise_grows : Grows (λ c. c) (Forced S o) (raise S)
    unfolding raise round
    raise_grows = upto_grows (λ c. c) (Forced S o) round S.axioms round_grows

  forced_self : (c : ℕ) → Small S c → Forced S c c
  forced_self c h = record { small = h; above = λ A x. x; sound = λ I legal d hd m. m }

  pub raise_forced : (c : ℕ) → Small S c → Forced S c (raise S c)
  raise_forced c h = (raise_grows c c (forced_self c h)).0

  raise_le : (c : ℕ) → Small S c → c ≤ raise S c
  raise_le c h = grows_le (λ d. d) (Forced S c) (raise S) (raise_grows c) c (forced_self c h)

  -- a set that a union with its raised self leaves as it is is closed
  pub raise_fixed : (c : ℕ) → Small S c → bit_or c (raise S c) ≡ c → raise S c ≡ c
  raise_fixed c h e =
      omega (arith, e, or_le_right c (raise S c), raise_le c h)

  pub full_small : Small S (full S.signature.classes)
  unfolding full
  full_small = ones_lt S.signature.classes

  pub full_fixed : raise S (full S.signature.classes) ≡ full S.signature.classes
  unfolding full
  full_fixed =
      let n = S.signature.classes in
      omega (arith, raise_le (2 ^ n - 1) full_small, (raise_forced (2 ^ n - 1) full_small).small, pow_pos n)

  raise_closed : (c : ℕ) → Small S c → raise S c ≡ c → (x : Axiom) → Of S x → (A : ℕ) → So (has (raise_by S c x) A) → So (has c A)
  unfolding raise round
  raise_closed c h e x o A y =
      has_absorbed c (raise_by S c (S.axiom_at o.0)) A
      (upto_fixed (λ d. d) (Forced S c) (round c) S.axioms (round_grows c) c (forced_self c h) e o.0 o.1)
      (subst (λ (z : Axiom). So (has (raise_by S c z) A)) (sym o.2) y)

  pub subclass_closed : (c : ℕ) → Small S c → raise S c ≡ c → (A B : ℕ) → Of S (Subclass A B) → So (has c A) → So (has c B)
  subclass_closed c h e A B x a = raise_closed c h e (Subclass A B) x B (placed (has c A) B a)

  pub closure_forced : (c : ℕ) → Small S c → Forced S c (closure S c)
  unfolding closure
  closure_forced c h = settle_ok (λ d. d) (Forced S c) (raise S) (raise_grows c) (suc (2 ^ S.signature.classes)) c (forced_self c h)

  pub closure_fixed : (c : ℕ) → Small S c → raise S (closure S c) ≡ closure S c
  unfolding closure
  closure_fixed c h =
      settle_fixed (λ d. d) (Forced S c) (raise S) (raise_grows c) (2 ^ S.signature.classes) (λ d ok. omega (arith, ok.small)) c
      (forced_self c h)

  -- the machine's loop: a round changes nothing of the closure, and it ends where nothing is raised
  pub closure_next : (c : ℕ) → Small S c → closure S (raise S c) ≡ closure S c
  unfolding closure
  closure_next c h =
      settle_next (λ d. d) (Forced S c) (raise S) (raise_grows c) (2 ^ S.signature.classes) (λ d ok. omega (arith, ok.small)) c
      (forced_self c h)

  pub closure_stop : (c : ℕ) → Small S c → raise S c ≡ c → closure S c ≡ c
  unfolding closure
  closure_stop c h e =
      settle_stop (λ d. d) (Forced S c) (raise S) (raise_grows c) (2 ^ S.signature.classes) (λ d ok. omega (arith, ok.small)) c
      (forced_self c h) e

  -- the image of a set: what the axioms force on a value, closed
  pub image_small : (c P : ℕ) → Small S (image S c P)
  unfolding image
  image_small c P = (closure_forced (values S c P) (values_small S declared c P)).small

  pub image_fixed : (c P : ℕ) → raise S (image S c P) ≡ image S c P
  unfolding image
  image_fixed c P = closure_fixed (values S c P) (values_small S declared c P)

  pub image_values : (c P A : ℕ) → So (has (values S c P) A) → So (has (image S c P) A)
  unfolding image
  image_values c P A h = (closure_forced (values S c P) (values_small S declared c P)).above A h

  pub image_sound : (I : State) → Legal S I → (c P d e : ℕ) → d < I.size → e < I.size → Fulfils I c d → Related I P d e
      → Fulfils I (image S c P) e
  unfolding image
  image_sound I legal c P d e hd he m r =
      (closure_forced (values S c P) (values_small S declared c P)).sound I legal e he (values_sound S I legal c P d e hd he m r)

  -- an object that needs a value of P is in P's domain
  pub needs_domain : (c P B : ℕ) → Small S c → raise S c ≡ c → So (needs S c P) → So (has (domain S P) B) → So (has c B)
  needs_domain c P B h e n b =
      let x = needs_is S c P n in
      raise_closed c h e (Necessary x.0 P) x.2 B (only_of (has c x.0) (domain S P) B x.1 b)
