-- The facts of the row of the kind whose object is in the set are the links.
use Prim.Native.Nat.{ℕ}
use mathlib.Core.Path.{refl, ◌∙◌}
use Rattle.std.proofs.Common.{rules}
use Rattle.std.proofs.lemmas.Iterator.{YieldsList-from_range}
use Rattle.std.proofs.lemmas.Iterator.Consumers.{YieldsList-from_filter, count_from_yields_List}
use Rattle.std.proofs.lemmas.List.Sums.{length-filter}
use Rattle.records.specs.StateRecord.{object_at}
use Rattle.records.proofs.General.RangeLaws.{count_of_range}
use Rattle.index.specs.BitSet.{bit_at}
use Rattle.links.proofs.CountLaws.{links_between}
use Rattle.links.proofs.counts.count_links.Goals as goal

pub returns : goal.returns
returns c =
    let test = λ (i : ℕ). bit_at c.args.set.now (object_at c.args.state.now i) in
    count_from_yields_List _ _ c.count.ensures.ran
    (YieldsList-from_filter _ test (YieldsList-from_range _ _ _ c.filter.ensures.source refl) c.filter.ensures.closure (λ x b q k. search rules))
    ∙ length-filter test _ ∙ count_of_range test _ _ ∙ links_between _ _ _ c.first_of_kind-from.ensures c.first_of_kind-to.ensures
