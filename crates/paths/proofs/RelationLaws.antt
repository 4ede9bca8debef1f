-- What the loops over the rows of relations keep: rows cleared, the identity, a step's facts, and what two relations share.
use Prim.Native.Nat.{ℕ, ◌+◌, ◌-◌, ◌*◌, ◌/◌, ◌%◌, ◌≤◌, ◌<◌}
use mathlib.Core.Bool.{Bool, So, not, ◌&&◌, ◌||◌, and-false, or-false}
use mathlib.Core.List.{List, ◌++◌}
use mathlib.Core.Logic.{inl, inr, ⊎_elim}
use mathlib.Core.Path.{◌≡◌, refl, sym, ap, ap₂, ◌∙◌}
use native.Mathlib.Decide.{dec_lt}
use native.Mathlib.Nat.{add-mul, mul_assoc, mul-le-mul_right}
use native.Mathlib.Omega.{arith}
use borrow.Rule.Slice.PartMut.{put_mid, post_of}
use Rattle.std.proofs.Common.{rules, ◌⊎◌}
use Rattle.std.proofs.lemmas.List.{places, length-replicate, get_or-replicate, length-take}
use Rattle.std.proofs.lemmas.List.Edits.{fill_by_more}
use borrow.Author.Tests.{eq-eqb, ne_eqb, eqb-true, lt-ltb, le-ltb, ltb-true}
use lib.Bits.{bit_and, bit_or}
use lib.Dec.{eqb, ltb}
use lib.ListN.{length, get_or, set, take, drop, replicate}
use lib.Seq.{get_or-set_other}
use Rattle.records.specs.Layout.{state_layout, entries}
use Rattle.records.specs.StateRecord.{objects, kind_at}
use Rattle.records.proofs.General.BoolLaws.{and_left, and_both, and_map, or_true_cases, or_left, or_right, test_same, eqb_same}
use Rattle.records.proofs.General.FiniteLaws.{any_zero, any_more, any_same}
use Rattle.records.specs.Finite.{bit}
use Rattle.index.specs.BitSet.{word_bits, bit_at, Inserted}
use Rattle.index.specs.Kinds.{KindParts}
use Rattle.records.proofs.General.BitLaws.{word_or, word_and, word_zero}
use Rattle.index.proofs.BitSetLaws.{zero_bits}
use Rattle.index.proofs.KindLaws.{kind_before, kind_after, kind_within}
use Rattle.paths.specs.declared.steps.Step.{Step}
use Rattle.paths.specs.declared.steps.Ends.{Ends}
use Rattle.paths.specs.declared.relation.Bases.{Bases}
use Rattle.rows.specs.Selection.{set_words}
use Rattle.rows.specs.Rows.{Row}
use Rattle.paths.specs.Steps.{origin_at, target_at, lands}
use Rattle.rows.specs.Blocks.{block_words, block_bits, cell}
use Rattle.paths.specs.Relation.{Outside, Room, Cleared, Diagonal, Followed, carries, Stepped, Gathered, Shared}
use Rattle.rows.proofs.BlockLaws.{row_fits, row_end, row_one, block_word}
use Rattle.paths.proofs.RoomLaws.{room_words}
use Rattle.paths.proofs.StepLaws.{object_end, end_few, Facing, facing_within}

-- Rows cleared.

-- a word of the part that was written, m words from a on, and a word outside it
module _ (a m : ℕ) (ws part : List ℕ) (long : length part ≡ m) (room : a + m ≤ length ws) where
  part_size : length (put_mid a m ws part) ≡ length ws
  part_size = search (rules, places)

  part_in : (i : ℕ) → i < m → get_or (put_mid a m ws part) (a + i) 0 ≡ get_or part i 0
  part_in i l = search (rules, places)

  part_out : (i : ℕ) → (i < a) ⊎ (a + m ≤ i) → get_or (put_mid a m ws part) i 0 ≡ get_or ws i 0
  part_out i out = ⊎_elim (λ l. search (rules, places)) (λ l. search (rules, places)) out

pub cleared_of : {n m : ℕ} (b : Bases) {ws part : List ℕ} → Room n b ws → m ≡ n * b.blocks * block_words → part ≡ replicate m 0
    → Cleared n b ws (put_mid (b.rel * b.blocks * block_words) m ws part)
cleared_of {n} {m} b {ws} {part} room k e =
    record {
      size = part_size start m ws part long fits;
      bits = λ t o l q. block_word vs ((b.rel + t) * b.blocks) o
          ∙ ap (λ (x : ℕ). bit x (o % word_bits)) (ap (λ (i : ℕ). get_or vs i 0) (omega (arith, add-mul b.rel t b.blocks)) ∙ zero (t * b.blocks * block_words + o / word_bits) (omega (arith, row_fits t n b.blocks l)))
          ∙ word_zero (o % word_bits);
      kept = λ t o out q. block_word vs (t * b.blocks) o
          ∙ ap (λ (x : ℕ). bit x (o % word_bits)) (part_out start m ws part long fits (t * b.blocks * block_words + o / word_bits) (⊎_elim (λ l. inl (omega (arith, row_fits t b.rel b.blocks l))) (λ l. inr (omega (arith, mul-le-mul_right b.blocks l, add-mul b.rel n b.blocks))) out))
          ∙ sym (block_word ws (t * b.blocks) o);
    }
  where
    start : ℕ
    start = b.rel * b.blocks * block_words

    vs : List ℕ
    vs = put_mid start m ws part

    long : length part ≡ m
    long = rw e (length-replicate m 0)

    fits : start + m ≤ length ws
    fits = omega (arith, room_words b room)

    zero : (i : ℕ) → i < m → get_or vs (start + i) 0 ≡ 0
    zero i l = part_in start m ws part long fits i l ∙ rw e (get_or-replicate m i 0 0 l)

-- The identity.

-- the first d objects to themselves
pub record Marking (n : ℕ) (b : Bases) (d : ℕ) (ws vs : List ℕ) : Type 0 where
  pub size : length vs ≡ length ws
  bits : (t o : ℕ) → t < n → o < b.blocks * block_bits → cell b.blocks vs (b.rel + t) o ≡ (ltb t d && eqb o t)
  kept : (k o : ℕ) → Outside k b.rel n → o < b.blocks * block_bits → cell b.blocks vs k o ≡ cell b.blocks ws k o

-- bits of rows of k blocks are the same only in one row
cell_one : {r s : ℕ} (k : ℕ) {o d : ℕ} → o < k * block_bits → d < k * block_bits → r * k * block_bits + o ≡ s * k * block_bits + d → r ≡ s
cell_one {r} {s} k {o} {d} l m e = row_one k {i = o / block_bits} {j = d / block_bits} (omega arith) (omega arith) (omega arith)

module _ {n : ℕ} {b : Bases} where
  pub marking_none : {ws vs : List ℕ} → Cleared n b ws vs → Marking n b 0 vs vs
  marking_none z =
      record {
        size = refl;
        bits = λ t o l m. z.bits t o l m ∙ sym (ap (λ (c : Bool). c && eqb o t) (le-ltb t 0 (omega arith)));
        kept = λ k o out m. refl;
      }

  pub marking_more : {d : ℕ} {ws vs us : List ℕ} → Marking n b d ws vs → d < n → n ≤ b.blocks * block_bits
      → Inserted vs ((b.rel + d) * b.blocks * block_bits + d) us
      → Marking n b (d + 1) ws us
  marking_more {d} {ws} {vs} {us} z room wide h =
      record {
        size = h.size ∙ z.size;
        bits = λ t o l m. h.bits ((b.rel + t) * b.blocks * block_bits + o) ∙ rw (z.bits t o l m) (test_same _ _ (there t o m) (back t o));
        kept = λ k o out m. h.bits (k * b.blocks * block_bits + o) ∙ rw (ne_eqb (k * b.blocks * block_bits + o) place (λ q. outside k out (cell_one b.blocks m (omega arith) q))) (or-false (cell b.blocks vs k o)) ∙ z.kept k o out m;
      }
    where
      place : ℕ
      place = (b.rel + d) * b.blocks * block_bits + d

      here : ℕ → ℕ → Bool
      here t o = eqb ((b.rel + t) * b.blocks * block_bits + o) place

      outside : (k : ℕ) → Outside k b.rel n → k ≡ b.rel + d → ⊥
      outside k out q = ⊎_elim (λ l. omega (arith, l, q)) (λ l. omega (arith, l, q)) out

      there : (t o : ℕ) → o < b.blocks * block_bits → So (ltb t d && eqb o t || here t o) → So (ltb t (d + 1) && eqb o t)
      there t o m e =
          ⊎_elim (λ p. let (l, q) = and_map (ltb-true t d) (eqb-true o t) p in and_both _ _ (lt-ltb t (d + 1) (omega arith)) (eq-eqb o t q))
          (λ p. let q = eqb-true ((b.rel + t) * b.blocks * block_bits + o) place p in
          let same : b.rel + t ≡ b.rel + d = cell_one b.blocks m (omega arith) q in
          let row = ap (λ (r : ℕ). r * b.blocks * block_bits) same in
          and_both _ _ (lt-ltb t (d + 1) (omega arith)) (eq-eqb o t (omega (arith, q, row, same))))
          (or_true_cases (ltb t d && eqb o t) (here t o) e)

      back : (t o : ℕ) → So (ltb t (d + 1) && eqb o t) → So (ltb t d && eqb o t || here t o)
      back t o e =
          let (l, q) = and_map (ltb-true t (d + 1)) (eqb-true o t) e in pick l q (dec_lt t d)
        where
          pick : t < d + 1 → o ≡ t → Dec (t < d) → So (ltb t d && eqb o t || here t o)
          pick l q (yes m) = or_left _ (here t o) (and_both _ _ (lt-ltb t d m) (eq-eqb o t q))
          pick l q (no m) =
              let same : t ≡ d = omega arith in
              or_right (ltb t d && eqb o t) _ (eq-eqb ((b.rel + t) * b.blocks * block_bits + o) place (ap₂ (λ (x y : ℕ). (b.rel + x) * b.blocks * block_bits + y) same (q ∙ same)))

  pub marking_all : {d : ℕ} {ws us vs : List ℕ} → Cleared n b ws us → Marking n b d us vs → n ≤ d → Diagonal n b ws vs
  marking_all {d} f z l =
      record {
        size = z.size ∙ f.size;
        bits = λ t o k m. z.bits t o k m ∙ ap (λ (c : Bool). c && eqb o t) (lt-ltb t d (omega arith));
        kept = λ k o out m. z.kept k o out m ∙ f.kept k o out m;
      }

-- What two rows share, put into a set.

-- vs is us with what the first n words of ps and of qs share put in
pub record Gathering (us ps qs : List ℕ) (n : ℕ) (vs : List ℕ) : Type 0 where
  done : (i : ℕ) → i < n → get_or vs i 0 ≡ bit_or (get_or us i 0) (bit_and (get_or ps i 0) (get_or qs i 0))
  kept : (i : ℕ) → n ≤ i → get_or vs i 0 ≡ get_or us i 0

module _ {us ps qs : List ℕ} where
  pub gathering_none : Gathering us ps qs 0 us
  gathering_none = record { done = λ i l. absurd (omega arith); kept = λ i l. refl }

  pub gathering_more : {n : ℕ} {vs : List ℕ} → Gathering us ps qs n vs → n < length vs
      → Gathering us ps qs (n + 1) (set vs n (bit_or (get_or vs n 0) (bit_and (get_or ps n 0) (get_or qs n 0))))
  gathering_more {n} {vs} z l =
      record {
        done = λ i m. rw (z.kept n (omega arith)) (fill_by_more (λ i. bit_or (get_or us i 0) (bit_and (get_or ps i 0) (get_or qs i 0))) vs n 0 l z.done i m);
        kept = λ i m. get_or-set_other vs n i _ 0 (λ e. omega arith) ∙ z.kept i (omega arith);
      }

-- the words of row r
abbrev pub row_words : ℕ → List ℕ → ℕ → List ℕ
row_words k ws r = take (k * block_words) (take (length ws - r * (k * block_words)) (drop (r * (k * block_words)) ws))

pub gathered_of : {k j : ℕ} {us ws vs : List ℕ} {r s : ℕ} → k * block_words ≤ length us → (r + 1) * k * block_words ≤ length ws → (s + 1) * k * block_words ≤ length ws
    → Gathering (take (k * block_words) us) (row_words k ws r) (row_words k ws s) j vs
    → length vs ≡ length (take (k * block_words) us)
    → length vs ≤ j
    → Gathered k us ws r s (vs ++ post_of 0 (k * block_words) us)
unfolding bit_at
gathered_of {k} {j} {us} {ws} {vs} {r} {s} fits p q z e m =
    record {
      size = search (rules, places);
      bits = λ o l. ap (λ (x : ℕ). bit x (o % word_bits)) (word (o / word_bits) (omega arith))
          ∙ word_or _ _ (o % word_bits)
          ∙ ap (λ (b : Bool). bit_at us o || b) (word_and _ _ (o % word_bits) ∙ ap₂ (λ (a b : Bool). a && b) (row_cell r p o l) (row_cell s q o l));
      kept = λ o l. ap (λ (x : ℕ). bit x (o % word_bits)) (search (rules, places));
    }
  where
    word : (i : ℕ) → i < k * block_words
        → get_or (vs ++ post_of 0 (k * block_words) us) i 0 ≡ bit_or (get_or us i 0) (bit_and (get_or (row_words k ws r) i 0) (get_or (row_words k ws s) i 0))
    word i l =
        let n : i < length vs = omega (arith, e, fits, length-take (k * block_words) us) in
        let here : get_or (vs ++ post_of 0 (k * block_words) us) i 0 ≡ get_or vs i 0 = search (rules, places) in
        let old : get_or (take (k * block_words) us) i 0 ≡ get_or us i 0 = search (rules, places) in
        here ∙ z.done i (omega arith) ∙ ap (λ (x : ℕ). bit_or x (bit_and (get_or (row_words k ws r) i 0) (get_or (row_words k ws s) i 0))) old

    row_cell : (t : ℕ) → (t + 1) * k * block_words ≤ length ws → (o : ℕ) → o < k * block_bits → bit (get_or (row_words k ws t) (o / word_bits) 0) (o % word_bits) ≡ cell k ws t o
    row_cell t n o l =
        let m : t * (k * block_words) + k * block_words ≤ length ws = omega (arith, row_end t k (length ws) n, mul_assoc t k block_words) in
        let here : get_or (row_words k ws t) (o / word_bits) 0 ≡ get_or ws (t * (k * block_words) + o / word_bits) 0 = search (rules, places) in
        ap (λ (x : ℕ). bit x (o % word_bits)) (here ∙ ap (λ (i : ℕ). get_or ws i 0) (omega (arith, mul_assoc t k block_words))) ∙ sym (block_word ws (t * k) o)

module _ {b : Bases} {ws : List ℕ} where
  pub shared_none : Shared 0 b ws (replicate set_words 0)
  shared_none =
      record {
        size = refl;
        bits = λ o l. zero_bits set_words o ∙ sym (any_zero (λ t. cell b.blocks ws (b.rel + t) o && cell b.blocks ws (b.spare + t) o));
        none = λ o l. zero_bits set_words o;
      }

  pub shared_more : {t : ℕ} {set vs : List ℕ} → Shared t b ws set → Gathered b.blocks set ws (b.rel + t) (b.spare + t) vs → Shared (t + 1) b ws vs
  shared_more {t} z h =
      record {
        size = h.size ∙ z.size;
        bits = λ o l. h.bits o l ∙ rw (z.bits o l, any_more (λ t. cell b.blocks ws (b.rel + t) o && cell b.blocks ws (b.spare + t) o) t);
        none = λ o l. h.kept o l ∙ z.none o l;
      }

-- A step.

carries_kind : (w : List ℕ) (x : Step) (landings : List ℕ) (a : ℕ) (b : Bases) (ws : List ℕ) (t o i : ℕ)
    → So (carries w x landings a b ws t o i)
    → kind_at w i ≡ x.kind
carries_kind w x landings a b ws t o i h = eqb-true (kind_at w i) x.kind (and_left _ _ (and_left _ _ h))

module _ {w : List ℕ} {x : Step} {landings : List ℕ} {a : ℕ} {b : Bases} where
  pub stepped_none : {n from : ℕ} {ws vs : List ℕ} → n ≡ objects w → Cleared n b ws vs → KindParts w x.kind from from → Stepped w x landings a b vs from vs
  stepped_none {n} {from} {ws} {vs} e z p =
      record {
        size = refl;
        bits = λ t o l m. z.bits t o (omega arith) m ∙ sym (kind_before w (carries w x landings a b vs t o) (carries_kind w x landings a b vs t o) p);
        kept = λ k o h m. refl;
      }

  pub stepped_more : {from to i : ℕ} {e : Ends} {set us ws vs : List ℕ} → Facing w from to e x → from ≤ i → i < to → Stepped w x landings a b us i ws
      → Room (objects w) b us
      → Row landings a set
      → Followed w e set b ws i vs
      → Stepped w x landings a b us (i + 1) vs
  stepped_more {i = i} {us = us} {ws = ws} {vs = vs} f lower upper z room r h =
      record {
        size = h.size ∙ z.size;
        bits = λ t o l m. carried (b.rel + t) o m ∙ rw (
          any_more (carries w x landings a b us t o) i,
          z.bits t o l m,
          eqb_same (b.rel + t) (b.rel + target_at w x i) t (target_at w x i) (λ q. omega arith) (λ q. omega arith),
          z.kept (b.spare + origin_at w x i) o (⊎_elim (λ p. inr (omega (arith, p, origin))) (λ p. inl (omega (arith, p, origin))) room.apart) m,
        );
        kept = λ k o out m. carried k o m ∙ rw (ne_eqb k (b.rel + target_at w x i) (λ q. ⊎_elim (λ l. omega (arith, q, l, target)) (λ l. omega (arith, q, l, target)) out), and-false (lands w x landings a i)) (or-false (cell b.blocks ws k o)) ∙ z.kept k o out m;
      }
    where
      j : i < entries state_layout w
      j = facing_within f upper

      target : target_at w x i < objects w
      target = f.ok.inside (not x.backward) i j

      origin : origin_at w x i < objects w
      origin = f.ok.inside x.backward i j

      carried : (k o : ℕ) → o < b.blocks * block_bits
          → cell b.blocks vs k o ≡ (cell b.blocks ws k o || lands w x landings a i && (eqb k (b.rel + target_at w x i) && cell b.blocks ws (b.spare + origin_at w x i) o))
      carried k o m =
          h.bits k o m
          ∙ rw (f.ends, object_end f.ok (not x.backward) i j, object_end f.ok x.backward i j, r.bits (target_at w x i) (end_few f.ok (not x.backward) i j), eq-eqb (kind_at w i) x.kind (kind_within _ f.first f.last _ lower upper))

  -- what the rows held that were cleared for the step is not asked for
  pub stepped_all : {n i to : ℕ} {ws us vs : List ℕ} → n ≡ objects w → Cleared n b ws us
      → Room (objects w) b ws
      → ((i : ℕ) → i < entries state_layout w → origin_at w x i < objects w)
      → Stepped w x landings a b us i vs
      → KindParts w (x.kind + 1) to to
      → to ≤ i
      → i ≤ entries state_layout w
      → Stepped w x landings a b ws (entries state_layout w) vs
  stepped_all {n} {i} {to} {ws} {us} e f room inside z p l k =
      record {
        size = z.size ∙ f.size;
        bits = λ t o j m. z.bits t o j m ∙ sym (kind_after w (carries w x landings a b us t o) (carries_kind w x landings a b us t o) p l k)
            ∙ any_same (carries w x landings a b us t o) (carries w x landings a b ws t o) (entries state_layout w) (λ i h _.
            ap (λ (c : Bool). lands w x landings a i && (eqb t (target_at w x i) && c)) (f.kept (b.spare + origin_at w x i) o (apart i (inside i h)) m));
        kept = λ k o out m. z.kept k o out m ∙ f.kept k o (rw e out) m;
      }
    where
      apart : (i : ℕ) → origin_at w x i < objects w → Outside (b.spare + origin_at w x i) b.rel n
      apart i h = ⊎_elim (λ q. inr (omega arith)) (λ q. inl (omega arith)) room.apart
