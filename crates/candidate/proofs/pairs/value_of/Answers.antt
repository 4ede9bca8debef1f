-- The made value if there is one, else the closing object if the need is unmet.
use Prim.Native.Nat.{suc, ◌+◌}
use native.Mathlib.Numerals.{add-one}
use native.Mathlib.Omega.{arith}
use mathlib.Core.Bool.{true, false}
use mathlib.Core.Path.{sym, ap, ◌∙◌}
use Rattle.candidate.proofs.PairLaws.{value_made, value_else}
use Rattle.candidate.proofs.TableLaws.{lacks_is}
use Rattle.forest.proofs.ObjectLaws.{size_laid}
use Rattle.candidate.proofs.pairs.value_of.Goals as goal

pub returns-in-Some : goal.returns-in-Some
returns-in-Some c = λ edges P u.
    value_made _ _ _ P _ _ (ap (λ i. i + 1) c.from.ensures ∙ rw c.in-Some.is at u.value) (omega arith)

pub returns-then-not-unmet : goal.returns-then-not-unmet
returns-then-not-unmet c = λ edges P u.
    value_else _ _ _ P _ false (sym (rw c.in_default.is at u.value))
    (sym c.if-not-unmet.true
    ∙ lacks_is _ _ _ P _ _ _ c.args.made _ _ c.unmet.ensures (c.classes_of-classes.ensures edges) u)

pub returns : goal.returns
returns c = λ edges P u.
    add-one _ ∙ ap suc (sym (size_laid _ _ _ c.requires.1.laid c.args.objects.now edges))
    ∙ value_else _ _ _ P _ true (sym (rw c.in_default.is at u.value))
    (sym c.if-not-unmet.false
    ∙ lacks_is _ _ _ P _ _ _ c.args.made _ _ c.unmet.ensures (c.classes_of-classes.ensures edges) u)
