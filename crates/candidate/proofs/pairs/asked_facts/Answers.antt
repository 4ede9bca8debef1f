-- Where the query asks nothing there is nothing to write.
use mathlib.Core.Path.{sym, ◌∙◌}
use Rattle.candidate.proofs.PairLaws.{unasked_wrote}
use Rattle.candidate.proofs.pairs.asked_facts.Goals as goal

pub returns-then-not-asked : goal.returns-then-not-asked
returns-then-not-asked c =
    let a = c.args in
    unasked_wrote _ _ _ _ _ (sym c.requires.g_le_max_objects.3 ∙ c.if-not-asked.true)

pub returns : goal.returns
returns c = c.link_facts.ensures
