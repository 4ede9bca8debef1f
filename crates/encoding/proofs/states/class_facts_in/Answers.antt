use Rattle.std.proofs.Common.{rules}
use native.Mathlib.Omega.{arith}
use lib.ListN.{length, get_or}
use Rattle.records.specs.Encoding.{class_fact, class_facts_in}
use Rattle.records.proofs.General.FiniteLaws.{count_le}
use Rattle.records.proofs.General.RangeLaws.{count_in}
use Rattle.encoding.proofs.states.class_facts_in.Goals as goal

pub returns : goal.returns
unfolding class_facts_in
returns c =
    let facts = c.args.facts.now in
    let e = count_in class_fact facts 0 (cc) c.filter.ensures.closure c.count.ensures.ran (λ x b q k. search rules) in
    (e, omega (arith, e, count_le (λ i. class_fact (get_or facts i 0)) (length facts)))
