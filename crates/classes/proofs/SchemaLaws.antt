-- What an accepted schema gives those who compute with class sets: axioms and sets of declared classes, and a round that only adds.
use Prim.Native.Nat.{ℕ, ◌≤◌, ◌<◌}
use native.Mathlib.Omega.{arith}
use mathlib.Core.Bool.{Bool}
use mathlib.Core.List.{List}
use mathlib.Core.Path.{◌≡◌, sym, ap, ◌∙◌}
use lib.Bits.{bit_or}
use Rattle.records.specs.declared.schema.Axiom.{Axiom}
use Rattle.records.specs.declared.schema.Axiom.TheVariants.{Necessary}
use Rattle.records.specs.Schema.{Schema}
use Rattle.records.specs.SchemaRecord.{schema_of}
use Rattle.records.specs.SchemaRefusal.{AcceptedSchema}
use Rattle.records.proofs.AcceptedLaws.{passes_2}
use Rattle.chase.specs.Axioms.{only, raise_by, domain, values, raise}
use Rattle.chase.specs.ClassSet.{has}
use Rattle.records.specs.Helpers.Declared.{DeclaredAxiom}
use Rattle.chase.proofs.AcceptanceLaws.{accepted_axioms}
use Rattle.chase.proofs.AxiomLaws.{values_small}
use Rattle.chase.proofs.ClassSetLaws.{or_le}
use Rattle.chase.proofs.ClosureLaws.{raise_forced}
use Rattle.records.proofs.General.LoopLaws.{upto_keeps}
use Rattle.classes.specs.Sets.{DeclaredSet}

module _ (w : List ℕ) (ok : AcceptedSchema w) where
  pub axioms_declared : (i : ℕ) → i < (schema_of w).axioms → DeclaredAxiom (schema_of w).signature ((schema_of w).axiom_at i)
  axioms_declared = accepted_axioms w (passes_2 w ok)

  pub values_declared : (c P : ℕ) → DeclaredSet w (values (schema_of w) c P)
  values_declared = values_small (schema_of w) axioms_declared

  pub raise_declared : (c : ℕ) → DeclaredSet w c → DeclaredSet w (raise (schema_of w) c)
  raise_declared c h = (raise_forced (schema_of w) axioms_declared c h).small

-- what a necessary attribute adds, by the test of its class
pub necessary_raises : (S : Schema) (c A P : ℕ) (x : Axiom) (b : Bool) → x ≡ Necessary A P → b ≡ has c A
    → raise_by S c x ≡ only b (domain S P)
necessary_raises S c A P x b e q = ap (raise_by S c) e ∙ ap (λ (t : Bool). only t (domain S P)) (sym q)

pub raise_rises : (S : Schema) (c : ℕ) → c ≤ raise S c
unfolding raise
raise_rises S c =
    upto_keeps (λ x. c ≤ x) (λ i x. bit_or x (raise_by S x (S.axiom_at i))) S.axioms
    (λ i h x k. omega (arith, or_le x (raise_by S x (S.axiom_at i)))) c (omega arith)
