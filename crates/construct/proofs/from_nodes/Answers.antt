-- A clash is found where the constants' nodes stand; otherwise the arrays are the candidate's (ArraysLaws).
use mathlib.Core.Path.{ap, sym, ◌∙◌}
use native.Mathlib.Omega.{arith}
use lib.Seq.{length-take-le}
use Rattle.records.specs.declared.schema.Signature.{Signature}
use Rattle.records.proofs.AcceptedLaws.{passes_1, signature_few}
use Rattle.construct.proofs.ArraysLaws.{built_open, clashes_are, constants_inside, marked_by}
use Rattle.construct.proofs.from_nodes.Goals as goal

pub overflow_sub-first : goal.overflow_sub-first
overflow_sub-first c =
    let s = ap (λ (s : Signature). s.constants) c.signature_of-s.ensures in
    omega (arith, s, constants_inside _ _ _ c.requires.0 _ _ c.closed-read.ensures.closed.prime)

pub clashes-requires : goal.clashes-requires
clashes-requires c =
    let s = ap (λ (s : Signature). s.constants) c.signature_of-s.ensures in
    let ok = c.requires.0 in (
      omega (arith, s, constants_inside _ _ _ ok _ _ c.closed-read.ensures.closed.prime),
      omega (arith, s, (signature_few _ (passes_1 _ ok.schema_accepted)).2),
    )

pub returns-then-clashes : goal.returns-then-clashes
returns-then-clashes c =
    sym (clashes_are _ _ _ c.requires.0 _ _ c.closed-read.ensures.closed.prime _ _ (rw c.signature_of-s.ensures) c.signature_of-s.ensures _ c.clashes.ensures)
    ∙ c.if-clashes.true

pub returns : goal.returns
returns c =
    let room = c.closed-read.ensures.room in
    built_open _ _ _ _ _ _ _ _ _ _
    (sym (clashes_are _ _ _ c.requires.0 _ _ c.closed-read.ensures.closed.prime _ _ (rw c.signature_of-s.ensures) c.signature_of-s.ensures _ c.clashes.ensures)
    ∙ c.if-clashes.false) c.from_primary-sizes.ensures.arrays
    (marked_by _ _ _ c.requires.0 _ _ c.closed-read.ensures.closed.prime _ c.closed-read.ensures.marks)
    (sym (c.from_primary-sizes.ensures.kept ∙ length-take-le _ _ (omega (arith, room.0, room.1)))) room.0 room.1
