-- A token of sort 6 or 7 names its argument, any other no attribute (NamedLaws).
use mathlib.Core.Path.{sym}
use Rattle.records.specs.Layout.{max_attributes}
use Rattle.records.specs.Named.{has_attribute}
use Rattle.records.proofs.General.SetLaws.{set_none}
use Rattle.records.proofs.NamedLaws.{no_attribute}
use Rattle.check_concept.proofs.named.attribute_of.Goals as goal

pub returns-in_default : goal.returns-in_default
returns-in_default c =
    let t = c.args.token in
    sym (set_none (λ P. has_attribute P t) max_attributes (λ P l. no_attribute t c.in_default.not-Forward c.in_default.not-Backward P))
