-- The table of domains after the first axioms: only the entry of the axiom's own attribute changes, to what is collected for it.
use Prim.Native.Nat.{ℕ, zero, suc, ◌+◌, ◌<◌}
use native.Mathlib.Decide.{ℕ_discrete}
use native.Mathlib.Omega.{arith}
use mathlib.Core.List.{List}
use mathlib.Core.Path.{◌≡◌, refl, sym, subst, ◌∙◌}
use lib.Bits.{bit_or, or_zero_r}
use lib.ListN.{length, length-set, get_or, set, replicate, length-replicate}
use lib.Seq.{get_or-set_same, get_or-set_other}
use borrow.Author.Tests.{eq-eqb, ne_eqb}
use Rattle.records.specs.declared.schema.Axiom.{Axiom}
use Rattle.records.specs.declared.schema.Axiom.TheVariants.{Subclass, Typing, Necessary, Single, Relates}
use Rattle.records.specs.Layout.{schema_layout, entries, max_attributes, max_classes}
use Rattle.records.specs.SchemaRecord.{schema_of}
use Rattle.records.specs.SchemaRefusal.{AcceptedSchema}
use Rattle.records.specs.Helpers.InRange.{AxiomInRange}
use Rattle.records.proofs.AcceptedLaws.{axiom_in_range}
use Rattle.chase.specs.Axioms.{domain_by, collect}
use Rattle.chase.specs.ClassSet.{place}
use Rattle.records.specs.Helpers.Loops.{upto}
use Rattle.classes.specs.Domains.{DomainTable}
use Rattle.records.proofs.General.TurnLaws.{upto_none, upto_more, upto_all}

-- an axiom of another kind adds to no attribute's domain
adds_none : (x : Axiom) → ((P A B : ℕ) → x ≡ Relates P A B → ⊥) → (Q : ℕ) → domain_by Q x ≡ 0
adds_none (Subclass A B) other Q = refl
adds_none (Typing A P B) other Q = refl
adds_none (Necessary A P) other Q = refl
adds_none (Single A P) other Q = refl
adds_none (Relates P A B) other Q = absurd (other P A B refl)

zeros_at : (n i : ℕ) → ◌≡◌ {A = ℕ} (get_or (replicate n 0) i 0) 0
zeros_at zero i = refl
zeros_at (suc n) zero = refl
zeros_at (suc n) (suc i) = zeros_at n i

module _ (w : List ℕ) where
  -- axiom j adds to what has been collected of the domain of P
  abbrev run : ℕ → ℕ → ℕ → ℕ
  run P j c = bit_or c (domain_by P ((schema_of w).axiom_at j))

  -- the table of the first i axioms
  pub record Filled (table : List ℕ) (i : ℕ) : Type 0 where
    pub size : length table ≡ max_attributes
    pub sets : (P : ℕ) → get_or table P 0 ≡ upto (run P) i 0

  pub filled_none : (n : ℕ) → n ≡ max_attributes → Filled (replicate n 0) 0
  filled_none n e =
      record {
        size = length-replicate n 0 ∙ e;
        sets = λ P. zeros_at n P ∙ upto_none (run P) 0;
      }

  -- one axiom more, x
  module _ (table : List ℕ) (i : ℕ) (x : Axiom) (at : x ≡ (schema_of w).axiom_at i) (z : Filled table i) where
    -- if it relates P, it adds to the entry of P alone
    pub filled_related : (P A B word : ℕ) → x ≡ Relates P A B → P < max_attributes → word ≡ bit_or (get_or table P 0) (place A)
        → Filled (set table P word) (i + 1)
    filled_related P A B word e h k =
        record {
          size = length-set table P word ∙ z.size;
          sets = λ Q.
              upto_more (run Q) i 0 (get_or table Q 0) (get_or (set table P word) Q 0) (z.sets Q) (rw (← at, e) (pick Q (ℕ_discrete Q P)));
        }
      where
        pick : (Q : ℕ) → Dec (Q ≡ P) → get_or (set table P word) Q 0 ≡ bit_or (get_or table Q 0) (domain_by Q (Relates P A B))
        pick Q (yes q) = rw (q, eq-eqb P P refl) (get_or-set_same table P word 0 (omega (arith, z.size)) ∙ k)
        pick Q (no n) = rw (ne_eqb P Q (λ q. n (sym q))) (get_or-set_other table P Q word 0 n ∙ sym (or_zero_r (get_or table Q 0)))

    pub filled_other : ((P A B : ℕ) → x ≡ Relates P A B → ⊥) → Filled table (i + 1)
    filled_other other =
        record {
          size = z.size;
          sets = λ Q.
              upto_more (run Q) i 0 (get_or table Q 0) (get_or table Q 0) (z.sets Q)
              (rw (← at, adds_none x other Q) (sym (or_zero_r (get_or table Q 0))));
        }

  pub related_in_range : AcceptedSchema w → (x : Axiom) (i P A B : ℕ) → x ≡ (schema_of w).axiom_at i → x ≡ Relates P A B
      → i < entries schema_layout w → (P < max_attributes) × (A < max_classes)
  related_in_range ok x i P A B at e l =
      let h : AxiomInRange (Relates P A B) = subst AxiomInRange (sym at ∙ e) (axiom_in_range w ok i l) in (h.0, h.1)

  pub filled_all : (table : List ℕ) (i : ℕ) → Filled table i → i ≡ entries schema_layout w → DomainTable w table
  unfolding collect schema_of
  filled_all table i z e =
      record { size = z.size; sets = λ P. upto_all (run P) i (entries schema_layout w) 0 (get_or table P 0) (z.sets P) e }
