-- What the check of a concept keeps while it scans the tokens, as plain functions: the pile's sorts, the steps and the names.
-- ConceptScanLaws of proofs/ ties them to the refusals.
use Rattle.std.specs.Prelude.{ℕ, ◌<◌, ◌^◌, ◌+◌, ◌-◌, ◌*◌, ◌/◌, ◌%◌, Bool, false, cond, not, ◌&&◌, ◌||◌, eqb, ltb, Option, Some, None, Result, Ok, Err}
use Rattle.std.specs.Int.Bits.{bit_or}
use Rattle.std.specs.Int.Count.{ones}
use mir.Val.{bool_byte}
use Rattle.records.specs.declared.token.Token.{Token}
use Rattle.records.specs.declared.token.Token.TheVariants.{Class, Everything, Constant, Both, Empty, Forward, Backward, Reached, Common, Mark}
use Rattle.check_concept.specs.declared.sorts.Sorts.{Sorts}
use Rattle.check_concept.specs.declared.scan.Scan.{Scan}
use Rattle.records.specs.declared.named.Named.{Named}
use Rattle.records.specs.declared.refusal.Refusal.{Refusal}
use Rattle.records.specs.declared.refusal.Refusal.TheVariants as refusal
use Rattle.records.specs.Finite.{set_of}
use Rattle.records.specs.Layout.{max_classes, max_attributes}
use Rattle.records.specs.Named.{has_class, has_attribute}
use Rattle.records.specs.ConceptRefusal.{is_step}

abbrev pub put_sort : Sorts → ℕ → Sorts
put_sort σ b = record { bits = 2 * σ.bits + b; height = σ.height + 1 }

abbrev pub join_sorts : Sorts → ℕ → ℕ → Option Sorts
join_sorts σ want b =
    cond (ltb σ.height 2 || not (eqb (σ.bits % 4) want)) None
    (Some (record { bits = 2 * (σ.bits / 4) + b; height = σ.height - 1 }))

abbrev pub reach_sort : Sorts → Option Sorts
reach_sort σ =
    cond (ltb σ.height 1 || not (eqb (σ.bits % 2) 1)) None
    (Some (record { bits = σ.bits - 1; height = σ.height }))

abbrev pub push_sort : Token → Sorts → Option Sorts
push_sort (Class A) σ = Some (put_sort σ 0)
push_sort Everything σ = Some (put_sort σ 0)
push_sort (Constant a) σ = Some (put_sort σ 0)
push_sort Both σ = join_sorts σ 0 0
push_sort Empty σ = Some (put_sort σ 1)
push_sort (Forward P) σ = join_sorts σ 2 1
push_sort (Backward P) σ = join_sorts σ 2 1
push_sort Reached σ = reach_sort σ
push_sort Common σ = join_sorts σ 3 0
push_sort (Mark k) σ = Some (put_sort σ 0)

-- a pile that there is no more, stays so
abbrev pub push_pile : Token → Option Sorts → Option Sorts
push_pile t None = None
push_pile t (Some σ) = push_sort t σ

-- room for one item more
abbrev pub HasRoom : Option Sorts → Type 0
HasRoom None = Unit {0}
HasRoom (Some σ) = (σ.bits < 2 ^ 63) × (σ.height < 64)

-- exactly one concept
abbrev pub is_concept_sort : Sorts → Bool
is_concept_sort σ = eqb σ.height 1 && eqb σ.bits 0

abbrev pub is_concept_pile : Option Sorts → Bool
is_concept_pile None = false
is_concept_pile (Some σ) = is_concept_sort σ

-- what is kept of the tokens passed, with one more
abbrev pub read_token : Token → Scan → Scan
read_token t σ =
    record {
      pile = push_pile t σ.pile;
      steps = σ.steps + bool_byte (is_step t);
      classes = bit_or σ.classes (set_of max_classes λ A. has_class A t);
      attributes = bit_or σ.attributes (set_of max_attributes λ P. has_attribute P t);
    }

-- what they name
abbrev pub named_by : Scan → Named
named_by σ = record { classes = σ.classes; attributes = σ.attributes; count = ones σ.classes }

-- what all tokens come to, where the record says that there are n steps
abbrev pub scan_answer : ℕ → ℕ → Scan → Result Named Refusal
scan_answer limit n σ =
    cond (not (is_concept_pile σ.pile)) (Err refusal.ConceptPile)
    (cond (not (eqb σ.steps n) || ltb limit σ.steps) (Err refusal.ConceptSteps)
    (Ok (named_by σ)))
