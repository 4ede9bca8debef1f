-- A round changes nothing of the closure, and the closure of a set that stands still is that set.
use mathlib.Core.Path.{sym, ◌∙◌}
use native.Mathlib.Omega.{arith}
use Rattle.records.specs.SchemaRecord.{schema_of}
use Rattle.chase.proofs.ClosureLaws.{closure_next, closure_stop}
use Rattle.classes.proofs.SchemaLaws.{axioms_declared, raise_declared, raise_rises}
use Rattle.classes.proofs.closure.closure.Goals as goal

pub loop-next-smaller : goal.loop-next-smaller
loop-next-smaller c =
    let turn = c.loop-next in
    omega (
      arith,
      raise_rises (schema_of c.args.schema.now) turn.closed,
      raise_declared c.args.schema.now c.requires.0 turn.closed turn.invariant.2,
      turn.invariant.0,
    )

pub loop-next-preserved : goal.loop-next-preserved
loop-next-preserved c =
    let turn = c.loop-next in (
      c.raise-next-in-loop-next.ensures,
      rw turn.invariant.0
          (closure_next (schema_of c.args.schema.now) (axioms_declared _ c.requires.0) turn.closed turn.invariant.2 ∙ turn.invariant.1),
      rw turn.invariant.0 (raise_declared c.args.schema.now c.requires.0 turn.closed turn.invariant.2),
    )

pub returns : goal.returns
returns c =
    let turn = c.loop-next in
    sym (closure_stop (schema_of c.args.schema.now) (axioms_declared _ c.requires.0) turn.closed turn.invariant.2
    (sym turn.invariant.0 ∙ c.loop-next-test.false))
    ∙ turn.invariant.1
