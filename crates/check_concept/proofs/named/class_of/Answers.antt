-- A token of sort 1 names its argument, any other no class (NamedLaws).
use mathlib.Core.Path.{sym}
use Rattle.records.specs.Layout.{max_classes}
use Rattle.records.specs.Named.{has_class}
use Rattle.records.proofs.General.SetLaws.{set_none}
use Rattle.records.proofs.NamedLaws.{no_class}
use Rattle.check_concept.proofs.named.class_of.Goals as goal

pub returns-in_default : goal.returns-in_default
returns-in_default c =
    let t = c.args.token in
    sym (set_none (λ A. has_class A t) max_classes (λ A l. no_class t c.in_default.not-Class A))
