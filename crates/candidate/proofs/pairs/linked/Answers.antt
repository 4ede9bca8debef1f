-- Some edge of the query is the pair.
use mathlib.Core.Path.{◌∙◌}
use borrow.Author.Rules.{rules}
use Rattle.std.proofs.Common.{tests}
use Rattle.std.proofs.lemmas.Iterator.{YieldsList-from_slice}
use Rattle.std.proofs.lemmas.Iterator.Search.{any_from_yields_List}
use Rattle.candidate.proofs.PairLaws.{is_link, links_words}
use Rattle.candidate.proofs.pairs.linked.Goals as goal

pub returns : goal.returns
returns c = λ g objects.
    any_from_yields_List (is_link c.args.edges.now c.args.attribute c.args.d c.args.e) _ _ _ c.any.ensures.ran (YieldsList-from_slice c.args.edges.now cc) (λ x b q k. search (rules, tests))
    ∙ links_words c.args.edges.now c.args.attribute c.args.d c.args.e g objects
