-- By the two facts at the end of the count.
use Rattle.check_state.proofs.StateScanLaws.{ends_tell}
use Rattle.check_state.proofs.bad_class_facts.Goals as goal

pub class_up_to-requires : goal.class_up_to-requires
class_up_to-requires c = c.class_facts-end.ensures.word

pub is_class_fact-requires : goal.is_class_fact-requires
is_class_fact-requires c = c.class_facts-end.ensures.word

pub returns : goal.returns
returns c =
    rw (c.is_class_fact.ensures, c.class_up_to.ensures, c.class_facts-end.ensures.value, c.facts-n.ensures.value)
    (ends_tell _ c.requires)
