-- The judge gets the words that were written, and no others.
use Prim.Native.Nat.{ℕ}
use mathlib.Core.List.{List}
use mathlib.Core.Path.{◌∙◌, ap}
use native.Mathlib.Omega.{arith}
use Rattle.std.proofs.lemmas.List.{length-replicate}
use Rattle.records.specs.Executable.{is_in}
use Rattle.records.specs.ConceptRecord.{concept_of}
use Rattle.records.specs.StateRecord.{state_of}
use Rattle.records.specs.Encoding.{state_record}
use Rattle.decide.specs.Start.{start_inside}
use Rattle.decide.proofs.PrefixLaws.{prefix_fits, prefix_is}
use Rattle.decide.proofs.StartLaws.{judgeable}
use Rattle.decide.proofs.start.inside_in.Goals as goal

pub write-n-requires : goal.write-n-requires
write-n-requires g c =
    (c.requires.judged.objects, omega (arith, c.requires.judged.few), omega (arith, c.requires.room, length-replicate {A = ℕ} g.row.WORDS 0))

pub shared_whole_as_front-selects : goal.shared_whole_as_front-selects
shared_whole_as_front-selects g c =
    let w = c.write-n.ensures in
    let fits = prefix_fits (state_record c.args.objects c.args.facts.now) _ _ _ w.lent_after w.value in
    (omega (arith, fits, c.write-n.auto.lent, length-replicate {A = ℕ} g.row.WORDS 0), omega (arith, c.requires.few))

pub selects-requires : goal.selects-requires
selects-requires g c =
    let a = c.args in
    let w = c.write-n.ensures in
    judgeable a.view.now a.objects a.start a.facts.now _ _ (prefix_is (state_record a.objects a.facts.now) _ _ _ w.lent_after w.value) c.requires.judged

pub returns : goal.returns
unfolding start_inside
returns g c =
    let a = c.args in
    let w = c.write-n.ensures in
    c.selects.ensures
    ∙ ap (λ (l : List ℕ). is_in (state_of l) (concept_of a.view.now) a.start)
    (prefix_is (state_record a.objects a.facts.now) _ _ _ w.lent_after w.value)
