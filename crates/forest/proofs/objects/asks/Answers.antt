-- Some edge of the query is such a pair.
use mathlib.Core.Path.{◌∙◌}
use borrow.Author.Rules.{rules}
use Rattle.std.proofs.Common.{tests}
use Rattle.std.proofs.lemmas.Iterator.{YieldsList-from_slice}
use Rattle.std.proofs.lemmas.Iterator.Search.{any_from_yields_List}
use Rattle.forest.proofs.ReadLaws.{from, asks_words}
use Rattle.forest.proofs.objects.asks.Goals as goal

pub returns : goal.returns
returns c = λ g objects.
    any_from_yields_List (from c.args.edges.now c.args.attribute c.args.d) _ _ _ c.any.ensures.ran (YieldsList-from_slice c.args.edges.now cc) (λ x b q k. search (rules, tests))
    ∙ asks_words c.args.edges.now c.args.attribute c.args.d g objects
