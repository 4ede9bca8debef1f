-- What a schema's axioms say of class sets, each by one loop over the axioms.
use Rattle.std.specs.Prelude.{ℕ, suc, ◌^◌, Bool, cond, ◌&&◌, eqb}
use Rattle.std.specs.Int.Bits.{bit_or}
use Rattle.records.specs.declared.schema.Axiom.{Axiom}
use Rattle.records.specs.declared.schema.Axiom.TheVariants.{Subclass, Typing, Necessary, Single, Relates}
use Rattle.records.specs.Schema.{Schema}
use Rattle.records.specs.Helpers.Loops.{upto, settle}
use Rattle.chase.specs.ClassSet.{place, meets, has}

-- the set, if the test passes
abbrev pub only : Bool → ℕ → ℕ
only b c = cond b c 0

-- What one axiom adds.
-- to the classes of the first objects of pairs of P
abbrev pub domain_by : ℕ → Axiom → ℕ
domain_by P (Subclass A B) = 0
domain_by P (Typing A R B) = 0
domain_by P (Necessary A R) = 0
domain_by P (Single A R) = 0
domain_by P (Relates R A B) = only (eqb R P) (place A)

-- to the classes whose objects have a value of P
abbrev pub needs_by : ℕ → Axiom → ℕ
needs_by P (Subclass A B) = 0
needs_by P (Typing A R B) = 0
needs_by P (Necessary A R) = only (eqb R P) (place A)
needs_by P (Single A R) = 0
needs_by P (Relates R A B) = 0

-- to the classes whose objects have at most one value of P
abbrev pub single_by : ℕ → Axiom → ℕ
single_by P (Subclass A B) = 0
single_by P (Typing A R B) = 0
single_by P (Necessary A R) = 0
single_by P (Single A R) = only (eqb R P) (place A)
single_by P (Relates R A B) = 0

-- to the classes of a value of P at an object with the classes of c
abbrev pub values_by : ℕ → ℕ → Axiom → ℕ
values_by c P (Subclass A B) = 0
values_by c P (Typing A R B) = only (eqb R P && has c A) (place B)
values_by c P (Necessary A R) = 0
values_by c P (Single A R) = 0
values_by c P (Relates R A B) = only (eqb R P) (place B)

module _ (S : Schema) where
  -- all that the axioms add
  unfoldable pub collect : (Axiom → ℕ) → ℕ
  collect f = upto (λ i c. bit_or c (f (S.axiom_at i))) S.axioms 0

  abbrev pub domain : ℕ → ℕ
  domain P = collect (domain_by P)

  -- an object with the classes of c has a value of P
  unfoldable pub needs : ℕ → ℕ → Bool
  needs c P = meets c (collect (needs_by P))

  -- an object with the classes of c has at most one value of P
  unfoldable pub is_single : ℕ → ℕ → Bool
  is_single c P = meets c (collect (single_by P))

  abbrev pub values : ℕ → ℕ → ℕ
  values c P = collect (values_by c P)

  -- to the classes of an object with the classes of c: the classes that include one of them, and the domain of an attribute
  -- of which it must have a value, whether or not it has one yet
  abbrev pub raise_by : ℕ → Axiom → ℕ
  raise_by c (Subclass A B) = only (has c A) (place B)
  raise_by c (Typing A R B) = 0
  raise_by c (Necessary A R) = only (has c A) (domain R)
  raise_by c (Single A R) = 0
  raise_by c (Relates R A B) = 0

  unfoldable pub raise : ℕ → ℕ
  raise c = upto (λ i c. bit_or c (raise_by c (S.axiom_at i))) S.axioms c

  -- all classes of an object with the classes of c
  unfoldable pub closure : ℕ → ℕ
  closure c = settle (λ d. d) raise (suc (2 ^ S.signature.classes)) c

  -- all classes of a value of P at an object with the classes of c, of which nothing else is known
  unfoldable pub image : ℕ → ℕ → ℕ
  image c P = closure (values c P)
