-- What is left of the word after a shift by the number of constants is not 0 where a digit from there on is 1.
use Rattle.records.specs.declared.schema.Signature.{Signature}
use Rattle.records.proofs.LooseLaws.{undeclared_is}
use mathlib.Core.Path.{ap, sym}
use native.Mathlib.Omega.{arith}
use Rattle.check_schema.proofs.bad_loose.Goals as goal

pub overflow_shr-result : goal.overflow_shr-result
overflow_shr-result c = omega (arith, ap (λ (s : Signature). s.constants) c.signature_of-s.ensures, c.requires)

pub returns : goal.returns
returns c =
    rw c.signature_of-s.ensures
    (sym (undeclared_is c.args.words.now (λ k. omega (arith, c.type_inv.words k))))
