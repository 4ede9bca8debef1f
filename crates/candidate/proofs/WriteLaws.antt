-- Writing facts: one fact, one list after another, and the lists of a loop in a row.
use Prim.Native.Nat.{ℕ, ◌+◌, ◌-◌, ◌<◌}
use native.Mathlib.Nat.{add-zero, zero-add}
use native.Mathlib.Numerals.{add-one}
use native.Mathlib.Omega.{arith}
use mathlib.Core.Bool.{Bool, So, false}
use mathlib.Core.List.{List, [], ◌∷◌, ◌++◌, append-nil, append_assoc}
use mathlib.Core.Path.{◌≡◌, refl, sym, ap, subst, ◌∙◌}
use lib.ListN.{length, take, set, length-append, length-set}
use lib.Seq.{take-suc-set}
use Rattle.chase.specs.Written.{gather}
use Rattle.chase.proofs.GatherLaws.{gather_more, gather_grows}
use Rattle.candidate.specs.Writing.{Room, Wrote, fact_if}

-- nothing, one fact, one list after another
pub wrote_none : (k : ℕ) (out : List ℕ) → Wrote k [] out k out
wrote_none k out = record { end = sym (add-zero k); words = sym (append-nil (take k out)); size = refl }

pub wrote_one : (k f : ℕ) (out : List ℕ) → Room k (f ∷ []) out → Wrote k (f ∷ []) out (k + 1) (set out k f)
unfolding Room
wrote_one k f out h =
    record {
      end = refl;
      words = ap (λ (j : ℕ). take j (set out k f)) (add-one k) ∙ take-suc-set out k f (omega (arith, h));
      size = length-set out k f;
    }

pub wrote_then : (k r q : ℕ) (l m out mid after : List ℕ) → Wrote k l out r mid → Wrote r m mid q after → Wrote k (l ++ m) out q after
wrote_then k r q l m out mid after a b =
    record {
      end = omega (arith, a.end, b.end, length-append l m);
      words = b.words ∙ ap (λ (x : List ℕ). x ++ m) a.words ∙ append_assoc (take k out) l m;
      size = b.size ∙ a.size;
    }

-- from the start of the list
pub wrote_start : (l out : List ℕ) (r : ℕ) (after : List ℕ) → Wrote 0 l out r after → (take r after ≡ l) × (r ≡ length l)
wrote_start l out r after a = (a.words, a.end ∙ zero-add (length l))

pub room_first : (k : ℕ) (l m out : List ℕ) → Room k (l ++ m) out → Room k l out
unfolding Room
room_first k l m out h = omega (arith, h, length-append l m)

pub room_next : (k r : ℕ) (l m out mid : List ℕ) → Room k (l ++ m) out → Wrote k l out r mid → Room r m mid
unfolding Room
room_next k r l m out mid h a = omega (arith, h, length-append l m, a.end, a.size)

-- the same list in other words
pub room_as : (k : ℕ) (l m out : List ℕ) → l ≡ m → Room k m out → Room k l out
room_as k l m out e h = subst (λ (x : List ℕ). Room k x out) (sym e) h

pub wrote_as : (k r : ℕ) (l m out after : List ℕ) → l ≡ m → Wrote k l out r after → Wrote k m out r after
wrote_as k r l m out after e h = subst (λ (x : List ℕ). Wrote k x out r after) e h

-- a fact, by its test
module _ (test : Bool) (k f : ℕ) (out : List ℕ) where
  pub if_off : test ≡ false → Wrote k (fact_if test f) out k out
  if_off h = subst (λ (b : Bool). Wrote k (fact_if b f) out k out) (sym h) (wrote_none k out)

  module _ (room : Room k (fact_if test f) out) (h : So test) where
    pub if_room : k < length out
    unfolding Room
    if_room = omega (arith, room, ap (λ (b : Bool). length (fact_if b f)) h)

    pub if_on : Wrote k (fact_if test f) out (k + 1) (set out k f)
    if_on =
        subst (λ (b : Bool). Wrote k (fact_if b f) out (k + 1) (set out k f)) (sym h)
        (wrote_one k f out (subst (λ (b : Bool). Room k (fact_if b f) out) h room))

-- the lists of a loop
module _ (f : ℕ → List ℕ) where
  -- .. written from place k
  module _ (k : ℕ) (out : List ℕ) where
    pub turn_none : Wrote k (gather 0 f) out k out
    unfolding gather
    turn_none = wrote_none k out

    pub turn_room : (i n r : ℕ) (mid : List ℕ) → i < n → Room k (gather n f) out → Wrote k (gather i f) out r mid → Room r (f i) mid
    unfolding Room
    turn_room i n r mid h room a =
        let q : i + 1 + (n - (i + 1)) ≡ n = omega arith in
        omega (
          arith,
          room,
          a.end,
          a.size,
          gather_grows f (i + 1) (n - (i + 1)),
          ap (λ (m : ℕ). length (gather m f)) q,
          ap length (gather_more f i),
          length-append (gather i f) (f i),
        )

    pub turn_more : (i r q : ℕ) (mid after : List ℕ) → Wrote k (gather i f) out r mid → Wrote r (f i) mid q after
        → Wrote k (gather (i + 1) f) out q after
    turn_more i r q mid after a b =
        subst (λ (l : List ℕ). Wrote k l out q after) (sym (gather_more f i)) (wrote_then k r q (gather i f) (f i) out mid after a b)

    pub turn_all : (i n r : ℕ) (after : List ℕ) → i ≡ n → Wrote k (gather i f) out r after → Wrote k (gather n f) out r after
    turn_all i n r after e a = subst (λ (m : ℕ). Wrote k (gather m f) out r after) e a
