-- The list has room for the most facts, and what stands at its start is the candidate's facts (ListableLaws).
use Rattle.std.proofs.lemmas.List.{length-replicate}
use Prim.Native.Nat.{ℕ}
use native.Mathlib.Omega.{arith}
use Rattle.records.specs.SchemaRecord.{schema_of}
use Rattle.decide.proofs.ListableLaws.{constants_inside, start_before, listed_ready, count_inside, facts_judged, listed_is}
use Rattle.decide.proofs.verdict.list_in.Goals as goal

pub overflow_sub-first : goal.overflow_sub-first
overflow_sub-first g c = constants_inside c.requires.listable (rw c.signature_of.ensures at c.allow-s.ensures)

pub overflow_sub-first-2 : goal.overflow_sub-first-2
overflow_sub-first-2 g c = start_before c.requires.listable (rw c.signature_of.ensures at c.allow-s.ensures)

pub object_of-start-requires : goal.object_of-start-requires
object_of-start-requires g c =
    (c.requires.listable.ready.inside, omega (arith, start_before c.requires.listable (rw c.signature_of.ensures at c.allow-s.ensures)))

pub facts-n-requires : goal.facts-n-requires
unfolding schema_of
facts-n-requires g c =
    record {
      ready = listed_ready c.requires.listable (rw c.signature_of.ensures at c.allow-s.ensures);
      edges_in_bounds = omega (arith, c.requires.room, length-replicate {A = ℕ} g.row.FACTS 0);
    }

pub shared_whole_as_front-answer_by : goal.shared_whole_as_front-answer_by
shared_whole_as_front-answer_by g c = (
  count_inside c.requires.listable (rw c.signature_of.ensures at c.allow-s.ensures) c.facts-n.ensures c.requires.room,
  omega (arith, c.requires.few),
)

pub answer_by-requires : goal.answer_by-requires
answer_by-requires g c =
    facts_judged c.requires.listable (rw c.signature_of.ensures at c.allow-s.ensures) c.facts-n.ensures c.object_of-start.ensures

pub returns : goal.returns
returns g c =
    let (start, list) = listed_is c.requires.listable (rw c.signature_of.ensures at c.allow-s.ensures) c.facts-n.ensures c.object_of-start.ensures in
    rw (start, list) at c.answer_by.ensures
