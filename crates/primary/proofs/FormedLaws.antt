-- Adding, joining and merging keep the two lists in order.
use Prim.Native.Nat.{ℕ, ◌+◌, ◌<◌, ◌≤◌}
use native.Mathlib.Omega.{arith}
use mathlib.Core.List.{List, map}
use mathlib.Core.Path.{◌≡◌, refl, sym, ap, subst, ◌∙◌}
use lib.Bits.{bit_or}
use lib.Dec.{eqb}
use lib.ListN.{length, get_or, set, length-set, length-map}
use Rattle.chase.specs.Primary.{Prime, rep_of, set_of, add, join}
use Rattle.records.specs.Helpers.Loops.{each, upto}
use Rattle.records.proofs.General.BoolLaws.{cond_elim}
use Rattle.records.proofs.General.ListLaws.{get_d_map}
use Rattle.records.proofs.General.TurnLaws.{upto_none, upto_more, passed, passed_none, passed_more, passed_all}
use Rattle.primary.specs.Formed.{prime, moved, Formed, Becomes}

module _ (r s : List ℕ) (formed : Formed r s) where
  pub becomes_add : (n c : ℕ) (t : List ℕ) → t ≡ set s (get_or r n 0) (bit_or (get_or s (get_or r n 0) 0) c)
      → Becomes (length r) r t (add n c (prime r s))
  unfolding add set_of rep_of
  becomes_add n c t e =
      record {
        value = ap (prime r) e;
        formed = record { paired = ap length e ∙ length-set s _ _ ∙ formed.paired; inside = formed.inside };
        size = refl;
      }

  pub becomes_join : (low high : ℕ) (q t : List ℕ) → high < length r → q ≡ map (moved low high) r
      → t ≡ set s high (bit_or (get_or s high 0) (get_or s low 0))
      → Becomes (length r) q t (join low high (prime r s))
  unfolding join
  becomes_join low high q t h e g =
      let size : length q ≡ length r = ap length e ∙ length-map r (moved low high) in
      record {
        value = ap (λ (m : List ℕ). prime m t) e ∙ ap (prime (map (moved low high) r)) g;
        formed =
            record {
              paired = ap length g ∙ length-set s _ _ ∙ formed.paired ∙ sym size;
              inside = λ i k.
                  subst (λ (m : List ℕ). get_or m i 0 < length q) (sym e)
                  (subst (λ (v : ℕ). v < length q) (sym (get_d_map (moved low high) r i (omega arith)))
                  (cond_elim (λ (v : ℕ). v < length q) (eqb (get_or r i 0) low) (λ _. omega arith)
                  (λ _. omega (arith, formed.inside i (omega arith)))));
            };
        size = size;
      }

  pub becomes_self : Becomes (length r) r s (prime r s)
  becomes_self = record { value = refl; formed = formed; size = refl }

-- A loop whose turns each leave the lists in order: over words, of which i are passed, and over numbers.
pub record Passed {A : Type 0} (run : A → Prime → Prime) (f : ℕ → A) (l : List ℕ) (x : Prime) (i : ℕ) (r s : List ℕ) : Type 0 where
  pub value : prime r s ≡ passed run f l i x
  pub formed : Formed r s
  pub size : length r ≡ length x.reps

module _ {A : Type 0} {run : A → Prime → Prime} {f : ℕ → A} {l : List ℕ} where
  pub words_none : {r s : List ℕ} → Formed r s → Passed run f l (prime r s) 0 r s
  words_none {r} {s} h = record { value = passed_none run f l (prime r s); formed = h; size = refl }

  pub words_more : {x : Prime} {i : ℕ} {r s q t : List ℕ} → i < length l → Passed run f l x i r s
      → Becomes (length r) q t (run (f (get_or l i 0)) (prime r s)) → Passed run f l x (i + 1) q t
  words_more {x} {i} {r} {s} {q} {t} h a b =
      record {
        value = passed_more run f l i x (prime r s) (prime q t) h a.value b.value;
        formed = b.formed;
        size = b.size ∙ a.size;
      }

  pub words_all : {x : Prime} {i : ℕ} {r s : List ℕ} → length l ≤ i → Passed run f l x i r s → Becomes (length x.reps) r s (each run (map f l) x)
  words_all {x} {i} {r} {s} h a = record { value = passed_all run f l i x (prime r s) h a.value; formed = a.formed; size = a.size }

module _ (run : ℕ → Prime → Prime) where
  pub turns_none : (r s : List ℕ) → Formed r s → Becomes (length r) r s (upto run 0 (prime r s))
  turns_none r s h = record { value = upto_none run (prime r s); formed = h; size = refl }

  pub turns_more : (i n : ℕ) (x : Prime) (r s q t : List ℕ) → Becomes n r s (upto run i x) → Becomes (length r) q t (run i (prime r s))
      → Becomes n q t (upto run (i + 1) x)
  turns_more i n x r s q t a b =
      record {
        value = upto_more run i x (prime r s) (prime q t) a.value b.value;
        formed = b.formed;
        size = b.size ∙ a.size;
      }

  pub turns_all : (i k n : ℕ) (x : Prime) (r s : List ℕ) → i ≡ k → Becomes n r s (upto run i x) → Becomes n r s (upto run k x)
  turns_all i k n x r s e a = subst (λ (j : ℕ). Becomes n r s (upto run j x)) e a

-- one change after another
pub becomes_then : (n : ℕ) (x : Prime) (f : Prime → Prime) (r s q t : List ℕ) → Becomes n r s x → Becomes (length r) q t (f (prime r s))
    → Becomes n q t (f x)
becomes_then n x f r s q t a b =
    record { value = b.value ∙ ap f a.value; formed = b.formed; size = b.size ∙ a.size }
