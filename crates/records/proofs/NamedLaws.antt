-- What a token names: a class by its sort alone, an attribute by its two sorts alone. And what the sets of an accepted concept say.
use Prim.Native.Nat.{ℕ, ◌<◌}
use mathlib.Core.Bool.{false, So, false≢true}
use mathlib.Core.List.{List}
use mathlib.Core.Logic.{◌⊎◌, inl, inr, ⊎_elim, ◌↔◌}
use mathlib.Core.Path.{◌≡◌, sym, ap, subst}
use borrow.Author.Tests.{eqb-true, eq-eqb}
use Rattle.records.specs.declared.token.Token.TheVariants.{Class, Everything, Constant, Both, Empty, Forward, Backward, Reached, Common, Mark}
use Rattle.records.specs.declared.token.Token as declared
use Rattle.records.specs.Layout.{max_classes, max_attributes}
use Rattle.records.specs.SchemaRecord.{signature_of}
use Rattle.records.specs.ConceptRecord.{token_at}
use Rattle.records.specs.SchemaRefusal.{AcceptedSchema}
use Rattle.records.specs.ConceptRefusal.{AcceptedConcept}
use Rattle.records.specs.Helpers.InRange.{TokenInRange}
use Rattle.std.specs.Prelude.{Ok, Err}
use Rattle.records.specs.Check.{check_refusals, concept_check, CheckExact}
use Rattle.records.specs.Marks.{allowing}
use Rattle.records.specs.Named.{NamesClass, NamesAttribute, has_class, has_attribute, class_named, attribute_named, named_in, NamedExactly}
use Rattle.records.proofs.General.BoolLaws.{false_of}
use Rattle.records.proofs.General.FiniteLaws.{any_iff}
use Rattle.records.proofs.General.SetLaws.{set_iff, set_ones}
use Rattle.records.proofs.AcceptedLaws.{passes_1, signature_few, token_in_range}
use Rattle.records.proofs.OutcomeLaws.{first_passed, outcome_refused, outcome_answered, passed_schema, passed_concept}

class_iff : (A : ℕ) (t : declared.Token) → So (has_class A t) ↔ (t ≡ Class A)
class_iff A (Class B) = (λ e. ap Class (sym (eqb-true A B e)), λ q. eq-eqb A B cc)
class_iff A Everything = (λ e. absurd (false≢true e), λ q. cc)
class_iff A (Constant a) = (λ e. absurd (false≢true e), λ q. cc)
class_iff A Both = (λ e. absurd (false≢true e), λ q. cc)
class_iff A Empty = (λ e. absurd (false≢true e), λ q. cc)
class_iff A (Forward P) = (λ e. absurd (false≢true e), λ q. cc)
class_iff A (Backward P) = (λ e. absurd (false≢true e), λ q. cc)
class_iff A Reached = (λ e. absurd (false≢true e), λ q. cc)
class_iff A Common = (λ e. absurd (false≢true e), λ q. cc)
class_iff A (Mark k) = (λ e. absurd (false≢true e), λ q. cc)

attribute_iff : (P : ℕ) (t : declared.Token) → So (has_attribute P t) ↔ ((t ≡ Forward P) ⊎ (t ≡ Backward P))
attribute_iff P (Forward Q) = (λ e. inl (ap Forward (sym (eqb-true P Q e))), ⊎_elim (λ q. eq-eqb P Q cc) (λ q. cc))
attribute_iff P (Backward Q) = (λ e. inr (ap Backward (sym (eqb-true P Q e))), ⊎_elim (λ q. cc) (λ q. eq-eqb P Q cc))
attribute_iff P (Class A) = (λ e. absurd (false≢true e), ⊎_elim (λ q. cc) (λ q. cc))
attribute_iff P Everything = (λ e. absurd (false≢true e), ⊎_elim (λ q. cc) (λ q. cc))
attribute_iff P (Constant a) = (λ e. absurd (false≢true e), ⊎_elim (λ q. cc) (λ q. cc))
attribute_iff P Both = (λ e. absurd (false≢true e), ⊎_elim (λ q. cc) (λ q. cc))
attribute_iff P Empty = (λ e. absurd (false≢true e), ⊎_elim (λ q. cc) (λ q. cc))
attribute_iff P Reached = (λ e. absurd (false≢true e), ⊎_elim (λ q. cc) (λ q. cc))
attribute_iff P Common = (λ e. absurd (false≢true e), ⊎_elim (λ q. cc) (λ q. cc))
attribute_iff P (Mark k) = (λ e. absurd (false≢true e), ⊎_elim (λ q. cc) (λ q. cc))

-- A token of another sort names nothing.

pub no_class : (t : declared.Token) → ((A : ℕ) → t ≡ Class A → ⊥) → (A : ℕ) → has_class A t ≡ false
no_class t h A = false_of (has_class A t) λ e. h A ((class_iff A t).0 e)

pub no_attribute : (t : declared.Token) → ((P : ℕ) → t ≡ Forward P → ⊥) → ((P : ℕ) → t ≡ Backward P → ⊥) → (P : ℕ) → has_attribute P t ≡ false
no_attribute t f b P = false_of (has_attribute P t) λ e. ⊎_elim (f P) (b P) ((attribute_iff P t).0 e)

module _ (schema : List ℕ) (fine : AcceptedSchema schema) (limit marks : ℕ) (w : List ℕ) (ok : AcceptedConcept limit (allowing marks (signature_of schema)) w) where
  class_below : (A : ℕ) → NamesClass w A → A < max_classes
  class_below A z = subst TokenInRange z.2 (token_in_range (allowing marks (signature_of schema)) (signature_few schema (passes_1 schema fine)) limit w ok z.0 z.1)

  attribute_below : (P : ℕ) → NamesAttribute w P → P < max_attributes
  attribute_below P z =
      let inside = token_in_range (allowing marks (signature_of schema)) (signature_few schema (passes_1 schema fine)) limit w ok z.0 z.1 in
      ⊎_elim (λ q. subst TokenInRange q inside) (λ q. subst TokenInRange q inside) z.2

  named_exact : NamedExactly w (named_in w)
  unfolding named_in class_named attribute_named
  named_exact =
      record {
        classes = set_iff (class_named w) (NamesClass w) max_classes (λ A. any_iff λ i. class_iff A (token_at w i)) class_below;
        attributes = set_iff (attribute_named w) (NamesAttribute w) max_attributes (λ P. any_iff λ i. attribute_iff P (token_at w i)) attribute_below;
        number = sym (set_ones (class_named w) max_classes);
      }

pub check_exact : (limit marks : ℕ) (schema w : List ℕ) → CheckExact limit marks schema w (concept_check limit marks schema w)
check_exact limit marks schema w =
    record {
      refused = λ r e. outcome_refused Err (Ok (named_in w)) (check_refusals limit marks schema w) e;
      answered = λ z.
          let passed = first_passed (check_refusals limit marks schema w) z in (
            named_in w,
            outcome_answered Err (Ok (named_in w)) (check_refusals limit marks schema w) z,
            named_exact schema (passed_schema schema passed.0) limit marks w (passed_concept limit (allowing marks (signature_of schema)) w passed.1.0),
          );
    }
