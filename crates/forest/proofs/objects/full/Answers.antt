-- A 1 shifted past the last class, less 1.
use Prim.Native.Nat.{◌<◌}
use native.Mathlib.Omega.{arith}
use mathlib.Core.Path.{ap}
use borrow.Author.Rules.{rules}
use Rattle.records.specs.SchemaRecord.{schema_of}
use Rattle.records.specs.declared.schema.Signature.{Signature}
use Rattle.forest.proofs.ReadLaws.{few_classes, full_some, full_mask}
use Rattle.forest.proofs.objects.full.Goals as goal

pub overflow_cast-result : goal.overflow_cast-result
unfolding schema_of
overflow_cast-result c = let h : c.signature_of-s.result.classes < 32 = omega (arith, few_classes c.args.schema.now c.requires _ (ap (λ (s : Signature). s.classes) c.signature_of-s.ensures)) in search rules

pub overflow_shl-result : goal.overflow_shl-result
unfolding schema_of
overflow_shl-result c = omega (arith, few_classes c.args.schema.now c.requires _ (ap (λ (s : Signature). s.classes) c.signature_of-s.ensures))

pub overflow_sub-result : goal.overflow_sub-result
unfolding schema_of
overflow_sub-result c = full_some c.args.schema.now c.requires _ (ap (λ (s : Signature). s.classes) c.signature_of-s.ensures)

pub returns : goal.returns
unfolding schema_of
returns c = full_mask c.args.schema.now c.requires _ (ap (λ (s : Signature). s.classes) c.signature_of-s.ensures)
