-- Document 01, "Meaning": states. No limit of the records applies to them.
use Rattle.std.specs.Prelude.{ℕ, ◌<◌, Bool, false, not, ◌&&◌, ◌||◌, ◌≡◌, eqb}
use Rattle.std.proofs.Math.Bool.{So}
use Rattle.records.specs.declared.schema.Signature.{Signature}
use Rattle.records.specs.Finite.{any, bit}

-- A finite set of objects, the numbers below `size` (it may be empty); a set of objects for each class;
-- a set of ordered pairs for each attribute; an object for each constant; and the choice, an object for each mark (document 02,
-- note 6).
pub record State : Type 0 where
  pub size : ℕ
  pub members : ℕ → ℕ → Bool
  pub pairs : ℕ → ℕ → ℕ → Bool
  pub names : ℕ → ℕ
  pub marks : ℕ → ℕ

-- object d is in class A
abbrev pub Member : State → ℕ → ℕ → Type 0
Member I A d = So (I.members A d)

-- (d, e) is a pair of attribute P: e is a value of P at d
abbrev pub Related : State → ℕ → ℕ → ℕ → Type 0
Related I P d e = So (I.pairs P d e)

-- of each object
abbrev pub Every : State → (ℕ → Type 0) → Type 0
Every I X = (d : ℕ) → d < I.size → X d

-- of some object
abbrev pub Some : State → (ℕ → Type 0) → Type 0
Some I X = (d : ℕ) × (d < I.size) × X d

-- Document 02, note 5: a loose constant may name the same object as any other.
abbrev pub is_loose : Signature → ℕ → Bool
is_loose s a = bit s.loose a

-- Different constants a and b name different objects unless one of the two is loose.
abbrev pub differ : Signature → ℕ → ℕ → Bool
differ s a b = not (is_loose s a || is_loose s b)

-- constants a and b are to differ and have the same, where f is what each has
abbrev pub clashing : Signature → (ℕ → ℕ) → ℕ → ℕ → Bool
clashing s f a b = differ s a b && eqb (f b) (f a)

-- constant a repeats what an earlier one has from which it is to differ: it clashes with that one
unfoldable pub repeats : Signature → (ℕ → ℕ) → ℕ → Bool
repeats s f a = any a (clashing s f a)

-- Each declared constant names an object, and those that are to differ name different objects.
pub record Names (s : Signature) (I : State) : Type 0 where
  pub inside : (a : ℕ) → a < s.constants → I.names a < I.size
  pub apart : (a : ℕ) → a < s.constants → repeats s I.names a ≡ false
